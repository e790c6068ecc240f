-- Changes put into the array of a root: what the whole takes and leaves.
use Rattle.std.proofs.Common.{◌≡◌, ◌↔◌, ℕ, ◌+◌, ◌*◌, ◌^◌, ◌≤◌, List, [], ◌∷◌, Option, None, Some, Result, Ok, Err, max, take, refl, sym, ◌∙◌, ap, subst, inl, inr, arith}
use Rattle.std.proofs.Math.Nat.{mul-le-mul, pow-le-pow_right}
use Rattle.std.proofs.lemmas.Bool.{cases_eq}
use Rattle.std.specs.FinMap as map_of
use Rattle.std.specs.Prelude.{IfOk, IsErr, OnErr}
use Rattle.hic_word.specs.Width.{four_wide}
use Rattle.hic_word.specs.declared.Word.{Word}
use Rattle.hic_word.specs.Values.{Array, IsBelow, IsValue, Pairs, Ref, array, array-pairs}
use Rattle.hic_word.specs.Changes.{AreChanges, with}
use Rattle.hic_word.specs.Heights.{height}
use Rattle.hic_word.specs.Canon.{IsPart, enc}
use Rattle.hic_word.specs.Exchanges.{HasRoomFor}
use Rattle.hic_word.specs.Holds.{Holds}
use Rattle.hic_word.specs.InMemory.{CanApply, ChangesFor, RootIn, WordIn}
use Rattle.hic_word.specs.Memory.{Layout, Memory, count_at, line_at, most_holds}
use Rattle.hic_word.specs.Standing.{IsWithin}
use Rattle.hic_word.specs.Stands.{Lookup}
use Rattle.hic_word.proofs.callers.Holds.{count_none, there_is}
use Rattle.hic_word.proofs.callers.Slices.{IsBelow-more, slice_whole}
use Rattle.line_mem.specs.Looks.{LooksUpTo}
use Rattle.line_mem.specs.Sound.{IsSound}
use Rattle.line_room.specs.Room.{LacksRoom}
use Rattle.line_room.proofs.MemoryRoom.{stored_lines_had_room}
use Rattle.line_room.proofs.RoomByLines.{referenced_lines_are_stored}
use Rattle.seg_canon.specs.declared.parts.Part.{Part}
use Rattle.seg_canon.specs.Parts.{PartFor, whole_part}
use Rattle.seg_canon.proofs.RootParts.{empty_root}
use Rattle.seg_read.specs.Levels.{levels}
use Rattle.seg_read.proofs.Levels.{levels-empty, levels_low}
use Rattle.seg_read.proofs.Rooting.{as_whole, root_height, root_part}
use Rattle.seg_write.specs.Charges.{LooksFew}
use Rattle.seg_write.specs.Puts.{CanGrow, CanPut, FallInto, put_at}
use Rattle.seg_write.specs.Trades.{Passes}
use Rattle.seg_write.proofs.Cutting.{take_ascends, take_changes}

-- the array of a root at its height, and the first k changes, which lie below a height
pub record IsReady (m : Memory) (h : ℕ) (x : Word) (k : ℕ) (cs : List (ℕ × Word)) (A L : Array) : Type 0 where
  pub part : PartFor 4 (line_at m) (whole_part h x) A
  pub changes : ChangesFor 4 (line_at m) cs (take k L)
  pub ascend : AreChanges 0 (take k L)
  pub levels : levels (enc 4 h A) ≤ height 4 A

-- none of changes below a height is left over
pub put_all : (h : ℕ) (A L : Array) → IsBelow (4 ^ h) L → put_at h 0 A L ≡ with A L
put_all h A L below = ap (with A) (slice_whole (4 ^ h) L below)

fall_all : (m : Lookup) (h : ℕ) (cs : List (ℕ × Word)) (L : Array) → ChangesFor 4 m cs L → AreChanges 0 L → IsBelow (4 ^ h) L → FallInto m h 0 1 cs L
fall_all m h cs L f ascend below = record { changes = f; ascend = ascend; below = subst (λ n. IsBelow n L) (let same : 4 ^ h ≡ 0 + 1 * 4 ^ h = omega arith in same) below }

module _ {m : Memory} {h k : ℕ} {x : Word} {cs : List (ℕ × Word)} {A L : Array} (top : ℕ) (r : IsReady m h x k cs A L) (below : IsBelow (4 ^ top) (take k L)) where
  -- they lie below the array's height
  pub puts : top ≤ h → CanPut (line_at m) h x 0 cs A (take k L)
  puts low = record { part = r.part; changes = fall_all (line_at m) h cs (take k L) r.changes r.ascend (IsBelow-more (4 ^ top) (4 ^ h) (take k L) (pow-le-pow_right (omega arith) low) below) }

  pub puts_all : top ≤ h → put_at h 0 A (take k L) ≡ with A (take k L)
  puts_all low = put_all h A (take k L) (IsBelow-more (4 ^ top) (4 ^ h) (take k L) (pow-le-pow_right (omega arith) low) below)

  -- or some lie past it
  pub grows : h ≤ top → top ≤ 16 → CanGrow (line_at m) (record { top = top; at = h; entry = x }) cs A (take k L)
  grows high low = record {
    part = record { is_part = r.part.is_part; high = high; low = low; entry = r.part.entry };
    changes = fall_all (line_at m) top cs (take k L) r.changes r.ascend below;
  }

  pub grows_all : put_at top 0 A (take k L) ≡ with A (take k L)
  grows_all = put_all top A (take k L) below

-- a memory that came to have the array had room for it
pub had_room : (old new : Memory) (held : List Word) (x : Word) (A : Array) → Holds 4 new (x ∷ held) → RootIn new x A → map_of.len new.lines ≤ new.layout.cap → new.layout ≡ old.layout → IsWithin (line_at old) (line_at new) → LacksRoom 4 old (A ∷ []) → ⊥
had_room old new held x A h root fits same within lacks =
    let b = h.balanced in
    stored_lines_had_room 4 old new (x ∷ held) (A ∷ []) four_wide b fits (ap (λ (x : Layout). x.cap) same) within (λ L i. referenced_lines_are_stored 4 new (x ∷ held) x A L four_wide b root.valid root.word i) lacks

-- a count that is not there has as much room as that of a line which comes
pub room_each : (m : Memory) (n : ℕ) → IsSound m → n ≤ most_holds → HasRoomFor n m → (id : ℕ) → count_at m id + n ≤ most_holds
room_each m n sound few room id = go (map_of.get m.lines id) refl
  where
    go : (o : Option (List Word)) → line_at m id ≡ o → count_at m id + n ≤ most_holds
    go None e = let none = count_none m id (sound.keys id) e in omega (arith, none, few)
    go (Some line) e = room id (there_is (line_at m id) line e)

-- the part of a root has no more levels than the array's height
pub root_levels : {m : Memory} {root : Word} {cs : List (ℕ × Word)} {A L : Array} (h : ℕ) → h ≡ max 1 root.height → CanApply m root cs A L → levels (enc 4 h A) ≤ height 4 A
root_levels {m} {root} {cs} {A} h at can = elim (cases_eq root.height 0) [
  | inl none ↦
      let empty : A ≡ [] = sym (array-pairs A) ∙ (empty_root can.root_for.word none).0 in
      let zero = ap (λ (B : Array). levels (enc 4 h B)) empty ∙ levels-empty h in
      omega (arith, zero)
  | inr some ↦
      let tall = root_height can.root_for (omega (arith, some)) in
      let same : height 4 A ≡ h = omega (arith, at, some, tall) in
      subst (λ k. levels (enc 4 k A) ≤ height 4 A) same (levels_low (height 4 A) A)
]

pub ready : {m : Memory} {root : Word} {all cs : List (ℕ × Word)} {A L : Array} (h k : ℕ) (p : Part) → h ≡ max 1 root.height → p.top ≡ h → p.at ≡ h → cs ≡ take k all
    → ((H : Pairs) → IsValue (Ref H) → WordIn m root (Ref H) → PartFor 4 (line_at m) p (array H)) → CanApply m root all A L → IsReady m h p.entry k cs A L
ready {m} {root} {all} {cs} {A} {L} h k p tall top at front f can = record {
  part = as_whole h p top at (root_part p f can.root_for);
  changes = subst (λ ds. ChangesFor 4 (line_at m) ds (take k L)) (sym front) (take_changes (line_at m) all L k can.changes_for);
  ascend = take_ascends 0 k L can.ascend;
  levels = root_levels h tall can;
}

-- looks of changes within an array's height, and of those that take it past its height
pub looks_few : (n k l a b probe old new : ℕ) → k ≤ n → l ≤ a → LooksUpTo (k * l + b + k * b * probe) old new → LooksFew n (max a b) probe old new
looks_few n k l a b probe old new fewer low looks =
    let h = max a b in
    let here : k * l ≤ n * h = mul-le-mul fewer (omega (arith, low)) in
    let more : k * b ≤ n * h = mul-le-mul fewer (omega arith) in
    let made : k * b * probe ≤ (n * h + 1) * probe = mul-le-mul (omega (arith, more)) (omega arith) in
    let up : (n + 1) * h ≡ n * h + h = omega arith in
    let last = looks.1 in
    (looks.0, omega (arith, here, made, up, last))

pub grown_few : (n k l a b probe old new : ℕ) → k ≤ n → l ≤ a → LooksUpTo (k * l + (k * b + 1) * probe) old new → LooksFew n (max a b) probe old new
grown_few n k l a b probe old new fewer low looks =
    let h = max a b in
    let here : k * l ≤ n * h = mul-le-mul fewer (omega (arith, low)) in
    let more : k * b ≤ n * h = mul-le-mul fewer (omega arith) in
    let made : (k * b + 1) * probe ≤ (n * h + 1) * probe = mul-le-mul (omega (arith, more)) (omega arith) in
    let up : (n + 1) * h ≡ n * h + h = omega arith in
    let last = looks.1 in
    (looks.0, omega (arith, here, made, up, last))

-- counts have room for fewer changes
pub room_few : (n k t x : ℕ) → k ≤ n → t ≤ 16 → x + 64 * (n + 1) ≤ most_holds → x + (4 * t * k + 2) ≤ most_holds
room_few n k t x fewer low room =
    let each : 4 * t * k ≤ 64 * n = mul-le-mul (omega (arith, low)) fewer in
    omega (arith, each, room)

-- lines that stay where an answer is there, and all stays where it is not
pub kept_or_same : {X E : Type 0} (old new : Memory) (r : Result X E) → IfOk r (λ _. IsWithin (line_at old) (line_at new)) → OnErr r (new ≡ old) → IsWithin (line_at old) (line_at new)
kept_or_same old new (Ok x) kept same = kept
kept_or_same old new (Err x) kept same = λ id line e. ap (λ (m : Memory). line_at m id) same ∙ e

-- there is no answer exactly where the array finds no room
pub full_exactly : {E : Type 0} (old new : Memory) (held : List Word) (A : Array) (r : Result Word E) → Holds 4 old held → map_of.len new.lines ≤ new.layout.cap → IfOk r (λ x. Passes old new [] (x ∷ [])) → IfOk r (λ x. RootIn new x A) → OnErr r (LacksRoom 4 old (A ∷ []))
    → IsErr r ↔ LacksRoom 4 old (A ∷ [])
full_exactly old new held A (Ok x) h fits taken root lacks = (λ e. cc, λ room. absurd (had_room old new held x A (taken.holds held h) root fits taken.layout taken.lines room))
full_exactly old new held A (Err e) h fits taken root lacks = (λ _. lacks, λ _. refl)

-- a part of a height is one of a greater height
pub tall_whole : {h top : ℕ} {A : Array} → IsPart 4 h A → h ≤ top → top ≤ 16 → IsPart 4 top A
tall_whole {h} {top} {A} a high low =
    let some = a.positive in
    record { positive = omega (arith, some, high); low = low; valid = a.valid; below = IsBelow-more (4 ^ h) (4 ^ top) A (pow-le-pow_right (omega arith) high) a.below }
