-- A cursor that was set on a root is true of the memory.
use Rattle.std.proofs.Common.{◌≡◌, subst, sym}
use Rattle.hic_word.specs.declared.Word.{Word}
use Rattle.hic_word.specs.Values.{Array}
use Rattle.hic_word.specs.InMemory.{RootIn}
use Rattle.hic_word.specs.Memory.{Memory}
use Rattle.seg_cursor.specs.Trails.{CursorFor, Trail, fresh}

pub first_cursor : {m : Memory} {root : Word} {A : Array} {c : Trail} → RootIn m root A → c ≡ fresh root → CursorFor m c A
first_cursor {m} {root} {A} r e = subst (λ v. CursorFor m v A) (sym e) (record { root_for = r; kept = tt })
