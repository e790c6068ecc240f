-- What calls on a memory exchange: nothing, beside words that stay held, among words with the same names, and one after
-- another.
use Rattle.std.proofs.Common.{List, ◌++◌, append_assoc, refl, sym, ◌∙◌, subst, arith}
use Rattle.std.proofs.lemmas.Option.{same_Some}
use Rattle.hic_word.specs.declared.Word.{Word}
use Rattle.hic_word.specs.Names.{NamedAlike}
use Rattle.hic_word.specs.Memory.{Memory, line_at, width}
use Rattle.hic_word.specs.Holds.{Holds}
use Rattle.hic_word.specs.Standing.{IsWithin}
use Rattle.hic_word.specs.Exchanges.{Exchanges, HoldsAmong, KeepsLines, PassesHolds, Reshapes}
use Rattle.hic_word.proofs.Counting.{names-append}
use Rattle.hic_word.proofs.Holding.{holding_is_by_counts}

-- ---- lines

-- where no line comes, no id gets another one
pub fewer_keep : (old new : Memory) → IsWithin (line_at new) (line_at old) → KeepsLines old new
fewer_keep old new within id line later e f = same_Some line later (sym e ∙ within id later f)

-- where no line leaves, no id gets another one
pub more_keep : (old new : Memory) → IsWithin (line_at old) (line_at new) → KeepsLines old new
more_keep old new within id line later e f = same_Some line later (sym (within id line e) ∙ f)

-- ---- words with the same names

-- words in front of others and behind them
pub turned_alike : (P Q H : List Word) → NamedAlike ((P ++ Q) ++ H) (Q ++ (P ++ H))
turned_alike P Q H id =
    let a = names-append id (P ++ Q) H in
    let b = names-append id P Q in
    let c = names-append id Q (P ++ H) in
    let d = names-append id P H in
    omega (arith, a, b, c, d)

-- the same words behind both
pub alike_beside : (P Q H : List Word) → NamedAlike P Q → NamedAlike (P ++ H) (Q ++ H)
alike_beside P Q H alike id =
    let a = names-append id P H in
    let b = names-append id Q H in
    let c = alike id in
    omega (arith, a, b, c)

regrouped : {m : Memory} (P Q : List Word) → NamedAlike P Q → Holds (width m) m P → Holds (width m) m Q
regrouped {m} P Q alike held = holding_is_by_counts (width m) m P Q alike held

-- ---- holds

module _ (old new : Memory) (P Q : List Word) (passes : PassesHolds old new P Q) where
  passes_regrouped : (G R : List Word) → NamedAlike G P → NamedAlike Q R → PassesHolds old new G R
  passes_regrouped G R before after H held =
      regrouped (Q ++ H) (R ++ H) (alike_beside Q R H after) (passes H (regrouped (G ++ H) (P ++ H) (alike_beside G P H before) held))

  passes_behind : (us : List Word) → PassesHolds old new (us ++ P) (us ++ Q)
  passes_behind us H held =
      let turned = regrouped ((us ++ P) ++ H) (P ++ (us ++ H)) (turned_alike us P H) held in
      regrouped (Q ++ (us ++ H)) ((us ++ Q) ++ H) (λ id. sym (turned_alike us Q H id)) (passes (us ++ H) turned)

  passes_before : (us : List Word) → PassesHolds old new (P ++ us) (Q ++ us)
  passes_before us H held =
      subst (Holds (width new) new) (sym (append_assoc Q us H)) (passes (us ++ H) (subst (Holds (width old) old) (append_assoc P us H) held))

-- what is held of some words among others is held of the others
pub among_first : {m : Memory} (P Q : List Word) → HoldsAmong m (P ++ Q) → HoldsAmong m P
among_first {m} P Q (H, held) = (Q ++ H, subst (Holds (width m) m) (append_assoc P Q H) held)

pub among_last : {m : Memory} (P Q : List Word) → HoldsAmong m (P ++ Q) → HoldsAmong m Q
among_last P Q (H, held) = (P ++ H, regrouped ((P ++ Q) ++ H) (Q ++ (P ++ H)) (turned_alike P Q H) held)

-- what was taken is held
pub among_after : (old new : Memory) (P Q : List Word) → PassesHolds old new P Q → HoldsAmong old P → HoldsAmong new Q
among_after old new P Q passes (H, held) = (H, passes H held)

-- ---- calls after which no line has come

-- where nothing is done
pub exchanges_nothing : (m : Memory) (P : List Word) → Exchanges m m P P
exchanges_nothing m P = record { holds = λ H held. held; lines = λ id line e. e; layout = refl }

-- one call after another
pub exchanges_then : {old between new : Memory} {P Q R : List Word} → Exchanges old between P Q → Exchanges between new Q R
    → Exchanges old new P R
exchanges_then first second = record {
  holds = λ H held. second.holds H (first.holds H held);
  lines = λ id line e. first.lines id line (second.lines id line e);
  layout = second.layout ∙ first.layout;
}

module _ {old new : Memory} {P Q : List Word} (e : Exchanges old new P Q) where
  -- only how often each id is named counts
  pub exchanges_regrouped : (G R : List Word) → NamedAlike G P → NamedAlike Q R → Exchanges old new G R
  exchanges_regrouped G R before after = record { holds = passes_regrouped old new P Q e.holds G R before after; lines = e.lines; layout = e.layout }

  -- behind words that stay held
  pub exchanges_behind : (us : List Word) → Exchanges old new (us ++ P) (us ++ Q)
  exchanges_behind us = record { holds = passes_behind old new P Q e.holds us; lines = e.lines; layout = e.layout }

  -- before words that stay held
  pub exchanges_before : (us : List Word) → Exchanges old new (P ++ us) (Q ++ us)
  exchanges_before us = record { holds = passes_before old new P Q e.holds us; lines = e.lines; layout = e.layout }

  -- the same, seen as a call that may store lines
  pub exchanges_reshapes : Reshapes old new P Q
  exchanges_reshapes = record { holds = e.holds; lines = fewer_keep old new e.lines; layout = e.layout }

-- ---- calls that may store lines

-- lines may leave afterwards
pub reshapes_then : {old between new : Memory} {P Q R : List Word} → Reshapes old between P Q → Exchanges between new Q R
    → Reshapes old new P R
reshapes_then first second = record {
  holds = λ H held. second.holds H (first.holds H held);
  lines = λ id line later e f. first.lines id line later e (second.lines id later f);
  layout = second.layout ∙ first.layout;
}

module _ {old new : Memory} {P Q : List Word} (r : Reshapes old new P Q) where
  -- as `exchanges_behind` and `exchanges_before`
  pub reshapes_behind : (us : List Word) → Reshapes old new (us ++ P) (us ++ Q)
  reshapes_behind us = record { holds = passes_behind old new P Q r.holds us; lines = r.lines; layout = r.layout }

  pub reshapes_before : (us : List Word) → Reshapes old new (P ++ us) (Q ++ us)
  reshapes_before us = record { holds = passes_before old new P Q r.holds us; lines = r.lines; layout = r.layout }
