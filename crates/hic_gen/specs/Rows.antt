-- Worked rows: what seed 1 draws first, and what is made of it.
use Rattle.std.specs.Prelude.{◌≡◌, [], ◌∷◌, ◌++◌, codes, refl}
use Rattle.std.specs.Fmt.{digits}
use Rattle.hic_gen.specs.Draws.{draws}
use Rattle.hic_gen.specs.Demo.{demo_object, demo_schedule}

first_draw : draws 1 1 ≡ 1817669548 ∷ []
first_draw = refl

first_record : (demo_object 1 1).words ≡ record { segment = 0; offset = 44; value = 28466622 } ∷ []
first_record = refl

first_item : demo_schedule 1 1 ≡ codes "0*12" ++ 10 ∷ []
unfolding digits
first_item = refl
