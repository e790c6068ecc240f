-- A test goes on after a change to segment 0 that was made.
use Rattle.std.proofs.Common.{◌≡◌, ℕ, zero, suc, ◌+◌, ◌*◌, ◌^◌, ◌<◌, ◌≤◌, List, [], ◌∷◌, ◌++◌, length, Option, Some, None, Result, Ok, Err, refl, sym, ◌∙◌, ap, subst, inl, inr, arith}
use Rattle.std.specs.Prelude.{IfOk, OnErr, option_map, slice_get}
use Rattle.std.proofs.lemmas.List.{length-append, length-map}
use Rattle.hic_isa.specs.declared.instr.SegKind.{SegKind}
use Rattle.hic_word.specs.declared.Kind.TheVariants.{RefPack}
use Rattle.hic_word.specs.declared.Word.{Word}
use Rattle.hic_word.specs.Values.{Array, IsValue, NoPair, Number, Ref, pairs}
use Rattle.hic_word.specs.Exchanges.{HasRoomFor, KeepsLines, Reshapes}
use Rattle.hic_word.specs.Holds.{Holds}
use Rattle.hic_word.specs.Lists.{In}
use Rattle.hic_word.specs.InMemory.{RootIn, WordIn}
use Rattle.hic_word.specs.Memory.{Memory, line_at, width}
use Rattle.hic_word.specs.Stands.{IsEmpty, word_of}
use Rattle.hic_word.proofs.callers.Holds.{counts_are_bounded, is_there, holding_is_by_counts}
use Rattle.hic_word.proofs.callers.Standing.{held_word_live, live_words_stand_on}
use Rattle.line_mem.specs.declared.mem.Full.{Full}
use Rattle.line_mem.specs.Sound.{IsSound}
use Rattle.seg_read.proofs.Examples.{empty_is}
use Rattle.segment_map.specs.declared.Segment.{Segment}
use Rattle.segment_map.specs.declared.merged.Merged.{Merged}
use Rattle.segment_map.specs.Merging.{Updated}
use Rattle.segment_map.specs.Segments.{empty_of, roots, with_root}
use Rattle.merge_update.specs.Ready.{IsReady}
use Rattle.merge_update.specs.Updates.{CommitFor, HasNew, McasFor, Updates}
use Rattle.merge_update.proofs.Cases.{root_here}
use Rattle.merge_update.proofs.Replacing.{is_there as segment_there}

-- counts have room where few words are held
pub room_to_change : {m : Memory} {segments : List Segment} {others : List Word} (n : ℕ) → IsSound m → n ≤ 4096 → IsReady m segments others → HasRoomFor (64 * (n + 1)) m
room_to_change {m} {segments} {others} n sound most ready id live =
    let (line, e) = is_there (line_at m id) live in
    let a = counts_are_bounded (width m) m (roots segments ++ others) id line (inr (inl refl)) ready.held.balanced sound.room e in
    let b = sound.most in
    let few = ready.few in
    omega (arith, a, b, few, most)

-- one number is written over the empty array
pub write_for : {m : Memory} {segments : List Segment} {others : List Word} (ready : IsReady m segments others) (root x : Word) {offset number : ℕ} → WordIn m root (Ref NoPair) → WordIn m x (Number number) → offset < 2 ^ 32 → number < 2 ^ 64 → CommitFor m segments 0 root ((offset, x) ∷ []) ready.kind [] ((offset, Number number) ∷ []) ready.array
unfolding IsValue
write_for {m} ready root x empty stands low fits = record {
  segment_for = ready.segment_for;
  writes_for = record {
    root_for = empty_is m root empty;
    changes_for = (refl, stands, tt);
    ascend = (omega arith, low, fits, tt);
  };
}

-- segment 0 is there
pub first_there : {m : Memory} {segments : List Segment} {others : List Word} → IsReady m segments others → 0 < length segments
first_there {m} {segments} ready = segment_there segments 0 ready.segment_for.segment ready.segment_for.there

-- and is the one that is found
pub first_stands : {m : Memory} {segments : List Segment} {others : List Word} (ready : IsReady m segments others) {here : Segment} → slice_get segments 0 ≡ Some here → (A : Array) × RootIn m here.root A
first_stands ready there = (ready.array, root_here ready.segment_for there)

-- segments that have the empty array
pub ready_at_first : (m : Memory) (kind : SegKind) (segments : List Segment) → segments ≡ empty_of kind ∷ [] → Holds (width m) m [] → IsReady m segments []
ready_at_first m kind segments e held = subst (λ ss. IsReady m ss []) (sym e) record {
  held = holding_is_by_counts (width m) m [] (word_of RefPack 0 0 ∷ []) (λ id. refl) held;
  few = omega arith;
  kind = kind;
  array = [];
  segment_for = record { segment = empty_of kind; there = refl; of_kind = refl; root_for = empty_is m (word_of RefPack 0 0) (IsEmpty refl) };
}

as_many_segments : (ss : List Segment) (vsid : ℕ) (root : Word) → length (with_root ss vsid root) ≡ length ss
as_many_segments [] vsid root = refl
as_many_segments (s ∷ ss) zero root = refl
as_many_segments (s ∷ ss) (suc vsid) root = ap suc (as_many_segments ss vsid root)

as_many_roots : (before after : List Segment) (others : List Word) → length after ≡ length before → length (roots before ++ others) ≤ 4 → length (roots after ++ others) ≤ 4
as_many_roots before after others same few =
    let a = length-append (roots before) others in
    let b = length-append (roots after) others in
    let c = length-map before (λ (s : Segment). s.root) in
    let d = length-map after (λ (s : Segment). s.root) in
    omega (arith, a, b, c, d, same, few)

root_at : (ss : List Segment) (vsid : ℕ) (s : Segment) (root : Word) → slice_get ss vsid ≡ Some s → slice_get (with_root ss vsid root) vsid ≡ Some (record s { root = root })
root_at [] vsid s root e = cc
root_at (t ∷ ss) zero s root e = ap (option_map (λ (u : Segment). record u { root = root })) e
root_at (t ∷ ss) (suc vsid) s root e = root_at ss vsid s root e

pub ready_after : {old new : Memory} {before after : List Segment} {others : List Word} (answer : Merged) (row : Updated) → IsReady old before others → Reshapes old new (roots before) (roots after) → Updates old new before after 0 answer row → IsReady new after others
ready_after {old} {new} {before} {after} {others} answer row ready reshapes updates = go row.array updates.has
  where
    go : (array : Option Array) → HasNew old new before after 0 array → IsReady new after others
    go None (same, kept) = subst (λ ss. IsReady new ss others) (sym same) (subst (λ m. IsReady m before others) (sym kept) ready)
    go (Some A) (root, set, stands) = record {
      held = reshapes.holds others ready.held;
      few = as_many_roots before after others (ap length set ∙ as_many_segments before 0 root) ready.few;
      kind = ready.kind;
      array = A;
      segment_for = record { segment = record ready.segment_for.segment { root = root }; there = ap (λ ss. slice_get ss 0) set ∙ root_at before 0 ready.segment_for.segment root ready.segment_for.there; of_kind = ready.segment_for.of_kind; root_for = stands };
    }

-- an array that is stored is to take the place of another
pub exchange_for : {m : Memory} {segments : List Segment} {others : List Word} {base mine : Word} {B N : Array} (ready : IsReady m segments others) → RootIn m base B → RootIn m mine N → McasFor m segments 0 base mine ready.kind B N ready.array
exchange_for ready before after = record { segment_for = ready.segment_for; base_for = before; mine_for = after }

-- a test goes on also where the change was not made for want of room
pub ready_still : {old new : Memory} {before after : List Segment} {others : List Word} (result : Result Merged Full) (row : Updated) → IsReady old before others → Reshapes old new (roots before) (roots after) → IfOk result (λ answer. Updates old new before after 0 answer row) → OnErr result ((after ≡ before) × (new ≡ old)) → IsReady new after others
ready_still (Ok answer) row ready reshapes updates unchanged = ready_after answer row ready reshapes updates
ready_still {old} {new} {before} {after} {others} (Err full) row ready reshapes updates (same, kept) = subst (λ ss. IsReady new ss others) (sym same) (subst (λ m. IsReady m before others) (sym kept) ready)

-- a segment of its own that gets an array
pub ready_with : (m : Memory) (kind : SegKind) (first after : List Segment) (root : Word) (A : Array) (others : List Word) → first ≡ empty_of kind ∷ [] → after ≡ with_root first 0 root → Holds (width m) m (root ∷ others) → RootIn m root A → length others ≤ 3 → IsReady m after others
ready_with m kind first after root A others one set held stands few = subst (λ ss. IsReady m ss others) (sym (set ∙ ap (λ ss. with_root ss 0 root) one)) record {
  held = held;
  few = omega (arith, few);
  kind = kind;
  array = A;
  segment_for = record { segment = record { kind = kind; root = root }; there = refl; of_kind = refl; root_for = stands };
}

in_behind : (x : Word) (xs ys : List Word) → In x ys → In x (xs ++ ys)
in_behind x [] ys there = there
in_behind x (y ∷ xs) ys there = inr (in_behind x xs ys there)

-- a root that is held beside the segments' stands for its array
pub root_kept : {old new : Memory} {segments : List Segment} {others : List Word} {root : Word} {A : Array} → KeepsLines old new → IsReady new segments others → In root others → RootIn old root A → RootIn new root A
root_kept {old} {new} {segments} {others} {root} {A} keeps ready there stands = record {
  valid = stands.valid;
  word = (live_words_stand_on (width new) old new (roots segments ++ others) root keeps ready.held (held_word_live new (roots segments ++ others) root ready.held (in_behind root (roots segments) others there))).value (Ref (pairs A)) stands.word;
}
