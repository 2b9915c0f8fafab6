-- `rules::acting_operands` meets its contract. Assumes nothing.
use mathlib.Core.Path.{◌≡◌, refl, ap, ◌∙◌}
use Rattle.std.specs.Prelude.{Result, Ok, Err}
use Rattle.std.specs.Result.{result_unwrap_or}
use Rattle.word.specs.declared.Operands.{Operands}
use Rattle.word.specs.declared.Operands.TheVariants as operands
use Rattle.word.specs.declared.Refusal.{Refusal}
use Rattle.word.specs.Fields.{operands_answer}
use Rattle.rules.specs.After.{acting_of}
use Rattle.rules.proofs.Reading.{acting_numbers}
use Rattle.rules.proofs.acting_operands.Goals as goal

told : (r : Result Operands Refusal) → result_unwrap_or r operands.NoEffect ≡ acting_of r
told (Ok f) = refl
told (Err r) = refl

pub returns : goal.returns
returns c = let q : c.unwrap_or.result ≡ acting_of c.args.read = c.unwrap_or.ensures ∙ told c.args.read in record { operands = q; numbers = ap operands_answer q ∙ acting_numbers c.args.read }
