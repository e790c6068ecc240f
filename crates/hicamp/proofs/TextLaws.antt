-- What is left of commands that read one file and write bytes.
use Rattle.std.proofs.Common.{◌≡◌, ℕ, List, Option, None, refl, sym, ◌∙◌, ap}
use Rattle.std.specs.Prelude.{IfSome, IsSome}
use Rattle.std.specs.FinMap as map
use Rattle.hic_io.specs.HostState.{HostState, Files}
use Rattle.hic_asm.specs.Assembly.{assembled}
use Rattle.hic_asm.specs.ObjectText.{dis_text}
use Rattle.hic_object.specs.Parts.{Parts}
use Rattle.hic_object.specs.Reading.{object_at}
use Rattle.hic_object.specs.Spelled.{spelled}
use Rattle.hicamp.specs.declared.files.FileKind.TheVariants as file
use Rattle.hicamp.specs.declared.status.Status.{Status}
use Rattle.hicamp.specs.Asked.{Answer, answer_bytes, asked_of_asm, asked_of_dis}
use Rattle.hicamp.specs.Outcome.{Fulfils, Leaves, ReadsObject, Serves}
use Rattle.hicamp.proofs.OutcomeLaws.{assembly-each, file-each, leaves-none, object-each, object_asked, of_all, serves-fulfils, source_asked, if_some}

-- bytes made of an object were written after it was read
pub serves-bytes : {a b c : HostState} {got : Status} (asks : Option (List ℕ) → (Parts → Answer) → Answer) (name : List ℕ) (o : Parts) (made : Parts → List ℕ) {bytes : List ℕ} → bytes ≡ made o → ReadsObject asks a b name o → Fulfils b c got (answer_bytes bytes) → Serves a c got (λ files. asks (map.get files name) (λ o. answer_bytes (made o))) (λ files. IsSome (map.get files name))
serves-bytes {a = a} asks name o made {bytes = bytes} is p q =
    serves-fulfils (answer_bytes bytes) (λ files. asks (map.get files name) (λ o. answer_bytes (made o))) (λ files. IsSome (map.get files name)) p.read
    (if_some (λ files. (next : Parts → Answer) → asks (map.get files name) next ≡ next o) (λ files. asks (map.get files name) (λ o. answer_bytes (made o)) ≡ answer_bytes bytes) a.files p.goes_on (λ files goes_on. goes_on (λ o. answer_bytes (made o)) ∙ ap answer_bytes (sym is))) q

-- no machine is left, whatever is told
abbrev LeavesNone : Answer → Type 0
LeavesNone x = x.last ≡ None

abbrev told : (x : Answer) → x.last ≡ None → LeavesNone x
told x none = none

pub asm-leaves : (files : Option Files) (got : Status) (source : List ℕ) → IfSome files (λ fs. Leaves got None (asked_of_asm source fs))
asm-leaves files got source = of_all (λ fs. Leaves got None (asked_of_asm source fs)) files (λ fs. leaves-none (file-each LeavesNone told file.Source (map.get fs source) (λ text. source_asked text (λ o. answer_bytes (spelled o))) (λ text. assembly-each LeavesNone told (assembled text) (λ o. answer_bytes (spelled o)) (λ o. refl))))

pub dis-leaves : (files : Option Files) (got : Status) (program : List ℕ) → IfSome files (λ fs. Leaves got None (asked_of_dis program fs))
dis-leaves files got program = of_all (λ fs. Leaves got None (asked_of_dis program fs)) files (λ fs. leaves-none (file-each LeavesNone told file.Program (map.get fs program) (λ bytes. object_asked bytes (λ o. answer_bytes (dis_text o))) (λ bytes. object-each LeavesNone told (object_at bytes) (λ o. answer_bytes (dis_text o)) (λ o. refl))))
