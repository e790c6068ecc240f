-- A register on an array of one line: after `seek` and a load, after `abort`, and after `renew`.
use Rattle.std.proofs.Common.{◌≡◌, ℕ, ◌+◌, ◌-◌, ◌/◌, ◌^◌, ◌<◌, ◌≤◌, Bool, true, false, List, [], ◌∷◌, ◌++◌, Option, Some, None, Result, Ok, Err, refl, sym, ◌∙◌, ap, subst, inl, inr, arith}
use Rattle.std.specs.Prelude.{IfOk, nat_lt}
use Rattle.std.proofs.lemmas.Bool.Decides.{nat_tests}
use Rattle.hic_word.specs.declared.Word.{Word}
use Rattle.hic_word.specs.Values.{Array}
use Rattle.hic_word.specs.Exchanges.{Exchanges}
use Rattle.hic_word.specs.Holds.{HasRoom, Holds, IsLive}
use Rattle.hic_word.specs.InMemory.{RootIn}
use Rattle.hic_word.specs.Memory.{Memory, width}
use Rattle.hic_word.proofs.callers.Holds.{among_after, fewer_keep}
use Rattle.hic_word.proofs.callers.Standing.{held_word_live}
use Rattle.line_mem.specs.Looks.{LooksUpTo}
use Rattle.line_mem.specs.Sound.{IsSound}
use Rattle.seg_cursor.specs.Trails.{JoinLooks}
use Rattle.iter_regs.specs.declared.refusal.IterRefusal.{IterRefusal}
use Rattle.iter_regs.specs.declared.opened.Open.{Open}
use Rattle.iter_regs.specs.Iters.{ForOpen, LoadLooks, OpenFor, ReadsBy, Stays, attached, emptied, iter_words, open_words, renewed, seeks, sought, words_of}
use Rattle.iter_regs.proofs.Going.{same_words}
use Rattle.iter_regs.proofs.OpenStands.{open_stands_on}
use Rattle.form_rows.specs.OneLine.{IsOneLine, WentTo}
use Rattle.form_rows.specs.Usable.{IsUsable}
use Rattle.form_rows.proofs.FirstCursor.{first_cursor}
use Rattle.form_rows.proofs.NumberChanges.{counts_have_room}
use Rattle.form_rows.proofs.Rooting.{root_stays}
use Rattle.form_rows.proofs.Using.{first_stands, in_first}

-- what is so in any case is so where the answer is Ok
pub if_ok : {X E P : Type 0} (result : Result X E) → P → IfOk result (λ _. P)
if_ok (Ok x) p = p
if_ok (Err e) p = tt

-- ---- a load at an offset

-- the register at another offset
abbrev pub At : Option Open → ℕ → Option Open
At None offset = None
At (Some r) offset = Some (record r { position = offset })

pub sought_at : (old between : Option Open) (offset : ℕ) (result : Result (Unit {0}) IterRefusal) → (result, between) ≡ seeks old offset → offset < 2 ^ 32 → between ≡ At old offset
sought_at None between offset result e low = ap (λ (x : Result (Unit {0}) IterRefusal × Option Open). x.1) e
sought_at (Some r) between offset result e low = ap (λ (x : Result (Unit {0}) IterRefusal × Option Open). x.1) e ∙ go (nat_lt offset (2 ^ 32)) refl
  where
    go : (b : Bool) → nat_lt offset (2 ^ 32) ≡ b → (sought b r offset).1 ≡ Some (record r { position = offset })
    go true f = refl
    go false f = absurd (grind (arith, nat_tests, f))

pub line_at_offset : (old : Option Open) (offset : ℕ) → IsOneLine old → IsOneLine (At old offset)
line_at_offset None offset line = tt
line_at_offset (Some r) offset line = line

pub words_at_offset : (old : Option Open) (offset : ℕ) → iter_words (At old offset) ≡ iter_words old
words_at_offset None offset = refl
words_at_offset (Some r) offset = refl

module _ (m : Memory) (offset : ℕ) (new : Option Open) where
  pub loaded_line : (old : Option Open) → Stays m (At old offset) new → IsOneLine old → IsOneLine new
  loaded_line None e line = subst IsOneLine (sym e) tt
  loaded_line (Some r) (s, e, same) (none, low) = subst IsOneLine (sym e) (same.pairs ∙ none, subst (λ (x : Word). x.height ≤ 1) (sym same.root) low)

  pub loaded_words : (old : Option Open) → Stays m (At old offset) new → iter_words new ≡ iter_words old
  loaded_words None e = ap iter_words e
  loaded_words (Some r) (s, e, same) = ap iter_words e ∙ same_words same

  pub loaded_last : (old : Option Open) → Stays m (At old offset) new → ReadsBy (At old offset) new → IsOneLine old → WentTo new offset
  loaded_last None e reads line = subst (λ o. WentTo o offset) (sym e) tt
  loaded_last (Some r) (s, e, same) reads (none, low) =
      let by_s : ReadsBy (At (Some r) offset) (Some s) = subst (ReadsBy (At (Some r) offset)) e reads in
      subst (λ o. WentTo o offset) (sym e) (subst (λ ps. ReadsBy (Some (record r { position = offset; pairs = ps })) (Some s)) none by_s)

pub loaded_looks : (old : Option Open) (offset a b : ℕ) → LoadLooks (At old offset) a b → IsOneLine old → LooksUpTo 1 a b
loaded_looks None offset a b e line = (omega (arith, e), omega (arith, e))
loaded_looks (Some r) offset a b looks (none, low) =
    let most : LooksUpTo r.cursor.root.height a b = subst (λ ps. LoadLooks (Some (record r { position = offset; pairs = ps })) a b) none looks in
    let (from, to) = most in
    (from, omega (arith, to, low))

pub loaded_near : (old : Option Open) (offset a b : ℕ) → LoadLooks (At old offset) a b → ForOpen (At old offset) (λ r. (p : ℕ) → r.cursor.last ≡ Some p → JoinLooks p r.position a b) → offset < 4 → (p : ℕ) → p < 4 → WentTo old p → b ≡ a
loaded_near None offset a b e near low p small last = e
loaded_near (Some r) offset a b looks near low p small last =
    let (from, to) = near p last 1 (omega arith) (omega (arith, low, small)) in
    omega (arith, from, to)

-- ---- after `abort`

emptied_stands : {m : Memory} (r : Open) (A L : Array) → OpenFor m r A L → OpenFor m (record r { pairs = [] }) A []
emptied_stands r A L for = record { can_apply = record { root_for = for.can_apply.root_for; changes_for = tt; ascend = tt }; cursor = for.cursor }

pub emptied_line : (old : Option Open) → IsOneLine old → IsOneLine (emptied old)
emptied_line None line = tt
emptied_line (Some r) (none, low) = (refl, low)

pub emptied_last : (old : Option Open) (p : ℕ) → WentTo old p → WentTo (emptied old) p
emptied_last None p last = tt
emptied_last (Some r) p last = last

pub emptied_words : (old : Option Open) → IsOneLine old → iter_words (emptied old) ≡ iter_words old
emptied_words None line = refl
emptied_words (Some r) (none, low) = ap (λ ps. r.cursor.root ∷ words_of ps) (sym none)

module _ (m n : Memory) where
  usable_emptied : (old : Option Open) → Exchanges m n (iter_words old) (iter_words (emptied old)) → IsUsable m old → IsUsable n (emptied old)
  usable_emptied None passed (among, can) = (among_after m n [] [] passed.holds among, tt)
  usable_emptied (Some r) passed (among, (A, L, for)) =
      let empty : Open = record r { pairs = [] } in
      let (others, held) = among_after m n (open_words r) (open_words empty) passed.holds among in
      ((others, held), (A, [], open_stands_on m n (open_words empty ++ others) (fewer_keep m n passed.lines) held empty A [] (in_first (open_words empty) others) (emptied_stands r A L for)))

  pub emptied_usable : (old new : Option Open) → new ≡ emptied old → Exchanges m n (iter_words old) (iter_words new) → IsUsable m old → IsUsable n new
  emptied_usable old new e passed usable = subst (IsUsable n) (sym e) (usable_emptied old (subst (λ o. Exchanges m n (iter_words old) (iter_words o)) e passed) usable)

  -- ---- after `renew`

  module _ (root : Word) (A : Array) (stands : RootIn m root A) where
    usable_renewed : (old : Option Open) → Exchanges m n (iter_words old) (iter_words (renewed old root)) → IsUsable m old → IsUsable n (renewed old root)
    usable_renewed None passed (among, can) = (among_after m n [] [] passed.holds among, tt)
    usable_renewed (Some r) passed (among, can) =
        let (others, held) = among_after m n (open_words r) (root ∷ []) passed.holds among in
        let there = root_stays m n (root ∷ others) root A (fewer_keep m n passed.lines) held (inl refl) stands in
        ((others, held), (A, [], record { can_apply = record { root_for = there; changes_for = tt; ascend = tt }; cursor = first_cursor there refl }))

    pub renewed_usable : (old new : Option Open) → new ≡ renewed old root → Exchanges m n (iter_words old) (iter_words new) → IsUsable m old → IsUsable n new
    renewed_usable old new e passed usable = subst (IsUsable n) (sym e) (usable_renewed old (subst (λ o. Exchanges m n (iter_words old) (iter_words o)) e passed) usable)

pub renewed_line : (old : Option Open) (root : Word) → root.height ≤ 1 → IsOneLine (renewed old root)
renewed_line None root low = tt
renewed_line (Some r) root low = (refl, low)

-- ---- just opened, beside other words that are held

pub opened_usable : (n : Memory) (new : Option Open) (segment : Option ℕ) (root : Word) (A : Array) (H : List Word) → new ≡ Some (attached segment root) → Holds (width n) n (root ∷ H) → RootIn n root A → IsUsable n new
opened_usable n new segment root A H opened held stands = subst (IsUsable n) (sym opened) ((H, held), (A, [], first_stands stands))

-- the third of three held words is live, and has room for one hold more
module _ (k : Memory) (a b x : Word) (held : Holds (width k) k (a ∷ b ∷ x ∷ [])) where
  pub third_live : IsLive k x
  third_live = held_word_live k (a ∷ b ∷ x ∷ []) x held (inr (inr (inl refl)))

  pub third_room : IsSound k → HasRoom k x
  third_room sound id e = let room = counts_have_room k (a ∷ b ∷ x ∷ []) 0 sound held (omega arith) (omega arith) id (third_live id e) in omega (arith, room)
