-- Lines that wait for the labels build what all lines build.
use Rattle.std.proofs.Common.{◌≡◌, ℕ, ◌+◌, ◌<◌, false, OnOk, List, [], ◌∷◌, ◌++◌, length, drop, get_or, Result, Ok, Err, refl, ap, sym, subst, ◌∙◌, arith}
use Rattle.std.proofs.lemmas.List.{at_drop_more, drop_all}
use Rattle.hic_asm.specs.declared.error.AsmError.{AsmError}
use Rattle.hic_asm.specs.declared.line.Waiting.{Waiting}
use Rattle.hic_asm.specs.Faults.{and_then}
use Rattle.hic_asm.specs.Lines.{Line, Empty, Defines, Task, Segment, Record, Code, line_seen, line_at}
use Rattle.hic_asm.specs.Assembly.{Seen, Built, built_by, line_built, in_line, pass}
use Rattle.hic_asm.specs.Waiting.{builds, build_all, Continues}

pub and_then-ok : {X E : Type 0} (r : Result X E) → and_then r (λ x. Ok x) ≡ r
and_then-ok (Ok x) = refl
and_then-ok (Err e) = refl

and_then-more : {X Y Z E : Type 0} (r : Result X E) (f : X → Result Y E) (g : Y → Result Z E) → and_then (and_then r f) g ≡ and_then r (λ x. and_then (f x) g)
and_then-more (Ok x) f g = refl
and_then-more (Err e) f g = refl

push_at : {X Y Z E : Type 0} (r : Result X E) (h : X → Result Z E) (f : X → Result Y E) (g : Y → Result Z E) → ((x : X) → h x ≡ and_then (f x) g) → and_then r h ≡ and_then (and_then r f) g
push_at (Ok x) h f g same = same x
push_at (Err e) h f g same = refl

-- a line more
pub build_all-push : (s : Seen) (b : Built) (ws : List Waiting) (w : Waiting) → build_all s b (ws ++ w ∷ []) ≡ and_then (build_all s b ws) (λ x. in_line w.number (built_by s x (line_seen w.line)))
unfolding build_all
build_all-push s b [] w = and_then-ok (in_line w.number (built_by s b (line_seen w.line)))
build_all-push s b (v ∷ ws) w =
    push_at (in_line v.number (built_by s b (line_seen v.line))) (λ next. build_all s next (ws ++ w ∷ [])) (λ next. build_all s next ws) (λ x. in_line w.number (built_by s x (line_seen w.line)))
    (λ next. build_all-push s next ws w)

-- a line that builds nothing
built_by-nothing : (s : Seen) (b : Built) (line : Line) → builds line ≡ false → built_by s b line ≡ Ok b
unfolding built_by
built_by-nothing s b Empty none = refl
built_by-nothing s b (Defines name) none = refl
built_by-nothing s b (Task entry) none = absurd (cc)
built_by-nothing s b (Segment kind) none = refl
built_by-nothing s b (Record word) none = refl
built_by-nothing s b (Code d) none = absurd (cc)

pub continues-same : (ws : List Waiting) (number : ℕ) (line : Line) → builds line ≡ false → Continues ws ws (λ s b. in_line number (built_by s b line))
continues-same ws number line none s b = sym (and_then-ok (build_all s b ws)) ∙ ap (and_then (build_all s b ws)) (λ i x. in_line number (sym (built_by-nothing s x line none) i))

-- a line that waits
pub continues-more : (old new : List Waiting) (w : Waiting) → new ≡ old ++ w ∷ [] → Continues old new (λ s b. in_line w.number (built_by s b (line_seen w.line)))
continues-more old new w is s b = ap (build_all s b) is ∙ build_all-push s b old w

-- a line that was read
pub continues-read : {X : Type 0} (r : Result X AsmError) (old new : List Waiting) (number : ℕ) (bytes : List ℕ) (line : Line) → line_at bytes ≡ Ok line
    → OnOk r (Continues old new (λ s b. in_line number (built_by s b line))) → OnOk r (Continues old new (λ s b. in_line number (line_built s b bytes)))
unfolding line_built
continues-read r old new number bytes line is here = subst (λ l. OnOk r (Continues old new (λ s b. in_line number (and_then l (built_by s b))))) (sym is) here

-- the lines that are left, after one that was taken up
pub continue-line : (s : Seen) (b : Built) (old new : List Waiting) (number : ℕ) (bytes : List ℕ) (rest all : List (List ℕ)) (total : Result Built AsmError) → all ≡ bytes ∷ rest
    → Continues old new (λ s b. in_line number (line_built s b bytes)) → and_then (build_all s b old) (λ x. pass (line_built s) number x all) ≡ total
    → and_then (build_all s b new) (λ x. pass (line_built s) (number + 1) x rest) ≡ total
unfolding pass
continue-line s b old new number bytes rest all total is here so_far =
    ap (λ r. and_then r (λ x. pass (line_built s) (number + 1) x rest)) (here s b)
    ∙ and_then-more (build_all s b old) (λ x. in_line number (line_built s x bytes)) (λ x. pass (line_built s) (number + 1) x rest)
    ∙ sym (ap (λ ls. and_then (build_all s b old) (λ x. pass (line_built s) number x ls)) is) ∙ so_far

-- no line is left
pub continue-end : (s : Seen) (b : Built) (ws : List Waiting) (number : ℕ) (all : List (List ℕ)) (total : Result Built AsmError) → all ≡ []
    → and_then (build_all s b ws) (λ x. pass (line_built s) number x all) ≡ total → build_all s b ws ≡ total
unfolding pass
continue-end s b ws number all total is so_far =
    sym (and_then-ok (build_all s b ws)) ∙ sym (ap (λ ls. and_then (build_all s b ws) (λ x. pass (line_built s) number x ls)) is) ∙ so_far

module _ (s : Seen) (b : Built) (ws : List Waiting) (i : ℕ) (d w : Waiting) (total : Result Built AsmError) (within : i < length ws) (is : w ≡ get_or ws i d) (so_far : build_all s b (drop i ws) ≡ total) where
  step : and_then (in_line w.number (built_by s b (line_seen w.line))) (λ next. build_all s next (drop (i + 1) ws)) ≡ total
  unfolding build_all
  step = ap (λ v. build_all s b (v ∷ drop (i + 1) ws)) is ∙ sym (at_drop_more (build_all s b) ws i d within) ∙ so_far

  -- a line without a fault is built
  pub build-next : (next : Built) → in_line w.number (built_by s b (line_seen w.line)) ≡ Ok next → build_all s next (drop (i + 1) ws) ≡ total
  build-next next fine = sym (ap (λ r. and_then r (λ x. build_all s x (drop (i + 1) ws))) fine) ∙ step

  -- the first fault is that of all
  pub build-fault : (error : AsmError) → in_line w.number (built_by s b (line_seen w.line)) ≡ Err error → total ≡ Err error
  build-fault error fault = sym step ∙ ap (λ r. and_then r (λ x. build_all s x (drop (i + 1) ws))) fault

-- after the last line
pub build-end : (s : Seen) (b : Built) (ws : List Waiting) (i : ℕ) (total : Result Built AsmError) → length ws ≡ i → build_all s b (drop i ws) ≡ total → total ≡ Ok b
unfolding build_all
build-end s b ws i total is so_far = sym so_far ∙ ap (build_all s b) (drop_all i ws (omega (arith, is)))
