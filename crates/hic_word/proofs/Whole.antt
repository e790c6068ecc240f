-- The visit of an array has levels enough.
use Rattle.std.proofs.Common.{◌≡◌, ℕ, ◌≤◌, Option, Some, None, refl, ◌∙◌, ap, arith}
use Rattle.hic_word.specs.Width.{IsWidth}
use Rattle.hic_word.specs.Entries.{LineValue}
use Rattle.hic_word.specs.Canon.{root_entry}
use Rattle.hic_word.specs.Lines.{line_of_entry, reach, visit_from}
use Rattle.hic_word.specs.FormLaws.{VisitsAreWhole}
use Rattle.hic_word.proofs.ArrayVisits.{array_low}
use Rattle.hic_word.proofs.Falls.{falls}
use Rattle.hic_word.proofs.Fits.{LineFits}
use Rattle.hic_word.proofs.Rank.{rank}
use Rattle.hic_word.proofs.Visits.{visits_enough, visits_step}

whole_from : {w : ℕ} → IsWidth w → (o : Option LineValue) (f g : ℕ) → ((L : LineValue) → o ≡ Some L → LineFits w L × (rank L ≤ g)) → g ≤ f → visit_from w f o ≡ visit_from w g o
whole_from width None f g low more = refl
whole_from {w} width (Some L) f g low more = let r = low L refl in visits_enough w (LineFits w) (falls width) f g L r.0 (omega (arith, r.1, more)) r.1

pub visits_are_whole : VisitsAreWhole
visits_are_whole w A width a = record {
  enough = λ f more. whole_from width (line_of_entry (root_entry w A)) f (reach A) (λ L e. array_low w width A L a e) more;
  step = λ L e. let r = array_low w width A L a e in ap (visit_from w (reach A)) e ∙ visits_step w (LineFits w) (falls width) (reach A) L r.0 r.1;
}
