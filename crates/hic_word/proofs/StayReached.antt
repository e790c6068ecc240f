-- No line has left that words reach of which each still names a live id.
use Rattle.std.proofs.Common.{◌≤◌, subst, inl, inr, arith, IsSome}
use Rattle.std.specs.FinMap as map_of
use Rattle.hic_word.specs.Lists.{times}
use Rattle.hic_word.specs.Names.{names_in}
use Rattle.hic_word.specs.Memory.{line_at, live_names}
use Rattle.hic_word.specs.ExchangeLaws.{ReachedLinesStay}
use Rattle.hic_word.proofs.Counted.{counted_entry, some_or}
use Rattle.hic_word.proofs.Counting.{live_counted}
use Rattle.hic_word.proofs.Fits.{made_fits}
use Rattle.hic_word.proofs.Freeing.{live_closed}
use Rattle.hic_word.proofs.Keys.{entry_line}
use Rattle.hic_word.proofs.Rank.{top_rank}
use Rattle.hic_word.proofs.Reached.{each_has}
use Rattle.hic_word.proofs.StandOn.{stays}
use Rattle.hic_word.proofs.Valued.{all_stored, valued_low}

pub reached_lines_stay : ReachedLinesStay
reached_lines_stay w old new H K width keeps held held_new live j line e =
    let es = map_of.entries old.lines in
    let (L, i, made) = held.balanced.stands j line e in
    let (Ks, valued) = all_stored (line_at old) es (λ d there.
    let at = entry_line old d there in
    let (M, k, fine) = held.balanced.stands d.0 d.1 at in
    (M, k, made_fits width fine, at)) in
    stays old new keeps j line
    (each_has width (line_at old) (λ id. 1 ≤ times id (names_in H)) (λ id. IsSome (line_at new id))
    (λ id above there. let (M, k, fine) = held.balanced.stands id above there in (M, k, made_fits width fine))
    (λ id above there. elim (some_or (times id (live_names old)) (times id (names_in H)) (subst (λ c. 1 ≤ c) (held.balanced.counted id above there) (held.balanced.used id above there))) [
      | inl n ↦ let (d, has, names) = counted_entry id es n in inr (d.0, d.1, entry_line old d has, names)
      | inr n ↦ inl n
    ])
    (top_rank Ks) (valued_low width (line_at old) es Ks (map_of.get-entries old.lines) valued)
    live
    (λ id q above there names alive. live_closed new K held_new.balanced q (live_counted new id q above (stays old new keeps id above alive there) names))
    (top_rank Ks) j L line e i (made_fits width made) (omega arith)) e
