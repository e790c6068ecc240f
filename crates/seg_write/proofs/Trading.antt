-- Words that a memory came to hold, over several steps.
use Rattle.std.proofs.Common.{◌≡◌, ℕ, ◌+◌, ◌≤◌, List, [], ◌∷◌, ◌++◌, ◌∙◌, subst, arith}
use Rattle.hic_word.specs.Width.{four_wide}
use Rattle.hic_word.specs.declared.Word.{Word}
use Rattle.hic_word.specs.Exchanges.{CountsRise, Exchanges}
use Rattle.hic_word.specs.Memory.{Memory, line_at}
use Rattle.hic_word.specs.Holds.{Holds}
use Rattle.hic_word.proofs.callers.Holds.{held_first}
use Rattle.line_room.specs.MemoryLaws.{HasKeys}
use Rattle.line_room.proofs.Alike.{holds_tell_memories}
use Rattle.seg_write.specs.Trades.{Passes, Trades}
use Rattle.seg_write.proofs.Composing.{lines_within}

-- no count rises by more than the sum of what it rises by
pub counts_rise : (a b c : Memory) (n k j : ℕ) → CountsRise n a b → CountsRise k b c → n + k ≤ j → CountsRise j a c
counts_rise a b c n k j first then fits id =
    let x = first id in
    let y = then id in
    omega (arith, x, y, fits)

-- holds that are taken while no line changes
pub trades_held : (a b : Memory) (xs : List Word) (n j : ℕ) → Exchanges a b [] xs → b.lines ≡ a.lines → CountsRise n a b → n ≤ j → Trades a b [] xs j
trades_held a b xs n j taken same counts fits = record {
  passes = record { holds = taken.holds; lines = lines_within a b same; layout = taken.layout };
  counts = λ id. let x = counts id in omega (arith, x, fits);
}

pub passes_then : (a b c : Memory) (xs ys zs : List Word) → Passes a b xs ys → Passes b c ys zs → Passes a c xs zs
passes_then a b c xs ys zs first then = record {
  holds = λ held h. then.holds held (first.holds held h);
  lines = λ id line e. then.lines id line (first.lines id line e);
  layout = then.layout ∙ first.layout;
}

-- words that are held in place of those that were taken
pub trades_then : (a b c : Memory) (xs ys : List Word) (n k j : ℕ) → Trades a b [] xs n → Trades b c xs ys k → n + k ≤ j → Trades a c [] ys j
trades_then a b c xs ys n k j first then fits = record {
  passes = passes_then a b c [] xs ys first.passes then.passes;
  counts = counts_rise a b c n k j first.counts then.counts fits;
}

-- a word that is taken before others, or after them
pub trades_before : (a b c : Memory) (x : Word) (xs : List Word) (n k j : ℕ) → Trades a b [] (x ∷ []) n → Trades b c [] xs k → n + k ≤ j → Trades a c [] (x ∷ xs) j
trades_before a b c x xs n k j first then fits = record {
  passes = record {
    holds = λ held h. held_first c xs x held (then.passes.holds (x ∷ held) (first.passes.holds held h));
    lines = λ id line e. then.passes.lines id line (first.passes.lines id line e);
    layout = then.passes.layout ∙ first.passes.layout;
  };
  counts = counts_rise a b c n k j first.counts then.counts fits;
}

pub trades_after : (a b c : Memory) (x : Word) (xs : List Word) (n k j : ℕ) → Trades a b [] xs n → Trades b c [] (x ∷ []) k → n + k ≤ j → Trades a c [] (x ∷ xs) j
trades_after a b c x xs n k j first then fits = record {
  passes = record {
    holds = λ held h. then.passes.holds (xs ++ held) (first.passes.holds held h);
    lines = λ id line e. then.passes.lines id line (first.passes.lines id line e);
    layout = then.passes.layout ∙ first.passes.layout;
  };
  counts = counts_rise a b c n k j first.counts then.counts fits;
}

-- a memory that came to hold words and gave them up is as before
pub given_back : (before m now : Memory) (xs held : List Word) → HasKeys before → HasKeys now → Holds 4 before held → Passes before m [] xs → Exchanges m now xs [] → now ≡ before
given_back before m now xs held keys now_keys h taken given =
    holds_tell_memories 4 now before held (line_at m) four_wide now_keys keys (given.layout ∙ taken.layout) (given.holds held (taken.holds held h)) h given.lines taken.lines

pub same_sum : (n : ℕ) → n ≤ n
same_sum n = omega arith

pub trades_words : {a b : Memory} {n : ℕ} (xs ys : List Word) → xs ≡ ys → Trades a b [] xs n → Trades a b [] ys n
trades_words {a} {b} {n} xs ys same taken = subst (λ ws. Trades a b [] ws n) same taken
