-- A text, read piece by piece.
use Rattle.std.proofs.Common.{◌≡◌, ◌≢◌, eqb, true, false, ℕ, ◌+◌, List, [], ◌∷◌, ◌++◌, length, Option, Some, None, option_to_list, refl, ap, sym, subst, ◌∙◌, arith}
use Rattle.std.specs.List.{cons_option}
use Rattle.std.proofs.lemmas.Bool.{eq-eqb}
use Rattle.std.proofs.lemmas.List.{append_assoc, append-nil, length-append}
use Rattle.std.proofs.lemmas.List.Elements.{filter_map-append}
use Rattle.task_sched.specs.declared.error.SchedError.{SchedError}
use Rattle.task_sched.specs.declared.item.Item.{Item}
use Rattle.task_sched.specs.Faults.{item_fault, piece_fault, first_fault, sched_fault, or_else}
use Rattle.task_sched.specs.Items.{item_of, items_in}
use Rattle.text_lines.specs.Pieces.{pieces}

-- so many pieces are read, without a fault, with these items; this text is left
pub record ReadSoFar (tasks : ℕ) (text rest : List ℕ) (line : ℕ) (items : List Item) : Type 0 where
  pub before : List (List ℕ)
  pub line_is : line ≡ length before
  pub items_is : items ≡ items_in before
  pub all : before ++ pieces rest ≡ pieces text
  pub faultless : first_fault tasks before (pieces rest) ≡ sched_fault text tasks

pub not_empty : (piece : List ℕ) → eqb (length piece) 0 ≡ false → length piece ≢ 0
not_empty piece test none = let empty : eqb (length piece) 0 ≡ true = eq-eqb (length piece) 0 none in cc

one_or_none : (found : Option Item) → cons_option found [] ≡ option_to_list found
one_or_none None = refl
one_or_none (Some item) = refl

items_in-push : (before : List (List ℕ)) (piece : List ℕ) (found : Option Item) → item_of piece ≡ found → items_in (before ++ piece ∷ []) ≡ items_in before ++ option_to_list found
items_in-push before piece found is = filter_map-append item_of before (piece ∷ []) ∙ ap (λ o. items_in before ++ cons_option o []) is ∙ ap (λ xs. items_in before ++ xs) (one_or_none found)

-- an empty piece is passed, and any other is judged as an item
empty_fault : (tasks line earlier : ℕ) (piece : List ℕ) → length piece ≡ 0 → piece_fault tasks line earlier piece ≡ None
empty_fault tasks line earlier [] empty = refl
empty_fault tasks line earlier (byte ∷ bytes) empty = absurd (omega arith)

empty_item : (piece : List ℕ) → length piece ≡ 0 → item_of piece ≡ None
empty_item [] empty = refl
empty_item (byte ∷ bytes) empty = absurd (omega arith)

some_fault : (tasks line earlier : ℕ) (piece : List ℕ) → length piece ≢ 0 → piece_fault tasks line earlier piece ≡ item_fault tasks line earlier (item_of piece)
some_fault tasks line earlier [] some = absurd (some refl)
some_fault tasks line earlier (byte ∷ bytes) some = refl

pub ReadSoFar-start : (tasks : ℕ) (text : List ℕ) → ReadSoFar tasks text text 0 []
ReadSoFar-start tasks text = record { before = []; line_is = refl; items_is = refl; all = refl; faultless = refl }

module _ (tasks : ℕ) (text rest : List ℕ) (line : ℕ) (items : List Item) (read : ReadSoFar tasks text rest line items) (piece after : List ℕ) (next : pieces rest ≡ piece ∷ pieces after) where
  -- the fault of the next piece, and of those after it
  fault_next : or_else (piece_fault tasks (line + 1) (length items) piece) (first_fault tasks (read.before ++ piece ∷ []) (pieces after)) ≡ sched_fault text tasks
  fault_next =
      ap (λ l. or_else (piece_fault tasks (l + 1) (length items) piece) (first_fault tasks (read.before ++ piece ∷ []) (pieces after))) read.line_is
      ∙ ap (λ xs. or_else (piece_fault tasks (length read.before + 1) (length xs) piece) (first_fault tasks (read.before ++ piece ∷ []) (pieces after))) read.items_is
      ∙ ap (first_fault tasks read.before) (sym next) ∙ read.faultless

  -- a piece without a fault is read
  passed : (found : Option Item) → item_of piece ≡ found → piece_fault tasks (line + 1) (length items) piece ≡ None → ReadSoFar tasks text after (line + 1) (items ++ option_to_list found)
  passed found is none = record {
    before = read.before ++ piece ∷ [];
    line_is = omega (arith, read.line_is, length-append read.before (piece ∷ []));
    items_is = ap (λ xs. xs ++ option_to_list found) read.items_is ∙ sym (items_in-push read.before piece found is);
    all = append_assoc read.before (piece ∷ []) (pieces after) ∙ ap (λ ps. read.before ++ ps) (sym next) ∙ read.all;
    faultless = sym (ap (λ fault. or_else fault (first_fault tasks (read.before ++ piece ∷ []) (pieces after))) none) ∙ fault_next;
  }

  pub ReadSoFar-empty : length piece ≡ 0 → ReadSoFar tasks text after (line + 1) items
  ReadSoFar-empty empty = subst (λ xs. ReadSoFar tasks text after (line + 1) xs) (append-nil items) (passed None (empty_item piece empty) (empty_fault tasks (line + 1) (length items) piece empty))

  pub ReadSoFar-item : (item : Item) → length piece ≢ 0 → item_of piece ≡ Some item → item_fault tasks (line + 1) (length items) (item_of piece) ≡ None → ReadSoFar tasks text after (line + 1) (items ++ item ∷ [])
  ReadSoFar-item item some is none = passed (Some item) is (some_fault tasks (line + 1) (length items) piece some ∙ none)

  -- the fault of the next piece is the first of the text
  pub ReadSoFar-fault : (error : SchedError) → length piece ≢ 0 → item_fault tasks (line + 1) (length items) (item_of piece) ≡ Some error → sched_fault text tasks ≡ Some error
  ReadSoFar-fault error some fault =
      sym fault_next ∙ ap (λ found. or_else found (first_fault tasks (read.before ++ piece ∷ []) (pieces after))) (some_fault tasks (line + 1) (length items) piece some ∙ fault)

-- at the end of the text all items have come, and no fault
pub ReadSoFar-items : (tasks : ℕ) (text rest : List ℕ) (line : ℕ) (items : List Item) → ReadSoFar tasks text rest line items → pieces rest ≡ [] → items ≡ items_in (pieces text)
ReadSoFar-items tasks text rest line items read end = read.items_is ∙ ap items_in (sym (append-nil read.before) ∙ ap (λ ps. read.before ++ ps) (sym end) ∙ read.all)

pub ReadSoFar-faultless : (tasks : ℕ) (text rest : List ℕ) (line : ℕ) (items : List Item) → ReadSoFar tasks text rest line items → pieces rest ≡ [] → sched_fault text tasks ≡ None
ReadSoFar-faultless tasks text rest line items read end = sym read.faultless ∙ ap (first_fault tasks read.before) end
