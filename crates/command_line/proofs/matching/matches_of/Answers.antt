use Rattle.std.proofs.Common.{◌≡◌, ◌∙◌, rules, ap, sym, inl, inr, map, string_bytes, List, ℕ}
use Rattle.clap.specs.Words.{app_of, kind_of}
use Rattle.clap.specs.Simple.{App}
use Rattle.clap.specs.Faults.{is_simple_and_free}
use Rattle.command_line.specs.Seen.{command_of}
use Rattle.command_line.specs.Request.{matched, simple_command}
use Rattle.command_line.proofs.Taking.{is_simple-command_of, matched-refused}
use Rattle.command_line.proofs.matching.matches_of.Goals as goal

pub returns : goal.returns
returns c =
    let made : app_of c.in_ok-command.command ≡ simple_command (command_of c.args.kind).takes = search rules in
    let words : List (List ℕ) = map string_bytes c.args.words.now in
    elim (c.in-Err.ensures.kinds (ap is_simple_and_free made ∙ is_simple-command_of c.args.kind)) [
      | inl memory ↦ absurd (c.in_default.not-OutOfMemory (c.kind.ensures ∙ memory))
      | inr among ↦ sym (ap (λ (a : App). matched a words) (sym made) ∙ matched-refused (app_of c.in_ok-command.command) words (kind_of c.in-Err.error) among)
    ]
