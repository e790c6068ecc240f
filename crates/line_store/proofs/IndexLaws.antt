-- What a search for a key may rest on.
use Rattle.std.proofs.Common.{◌≡◌, ℕ, sym, ap, ◌∙◌, subst}
use Rattle.std.specs.Prelude.{count_by, ◌==◌}
use Rattle.std.proofs.lemmas.Bool.{eqb-true}
use Rattle.hic_word.specs.Lists.{In}
use Rattle.line_slots.specs.declared.entry.Entry.{Entry}
use Rattle.line_slots.specs.ChainLists.{ChainLists, chain_at, entries}
use Rattle.line_slots.specs.KeyNumbers.{chain_number}
use Rattle.line_store.specs.Index.{chain_for, IsIndex}
use Rattle.line_slots.proofs.Counts.{none-count}
use Rattle.line_slots.proofs.ChainCounts.{count-alone, in_one_of}

-- an entry with a key is in the chain for that key
pub own_key : (bits : ℕ) (lists : ChainLists) → IsIndex bits lists → (e : Entry) → In e (entries lists) → (key : ℕ) → e.key ≡ key → In e (chain_for bits lists key)
own_key bits lists index e i key s =
    let (b, j) = in_one_of e lists.chains i in
    subst (λ n. In e (chain_at lists n)) (sym (index.own b e j) ∙ ap (chain_number bits) s) j

-- so that chain has all that have the key
pub chain_keys : (bits : ℕ) (lists : ChainLists) → IsIndex bits lists → (key : ℕ) → count_by (λ (e : Entry). e.key == key) (chain_for bits lists key) ≡ count_by (λ (e : Entry). e.key == key) (entries lists)
chain_keys bits lists index key = count-alone (λ e. e.key == key) lists.chains (chain_number bits key) (λ b apart. none-count (λ e. e.key == key) (chain_at lists b) (λ e i t.
    apart (sym (index.own b e i) ∙ ap (chain_number bits) (eqb-true e.key key t))))
