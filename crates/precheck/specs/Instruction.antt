-- Document 01, "Set and unset" and "Numbers given back", of an instruction by its operands: the rules 4 to 8, and the marks after it. Definitions only.
use Rattle.std.specs.Prelude.{◌≡◌, not, List, [], ◌∷◌, ◌++◌, ℕ, Result, Ok, ⊤}
use Rattle.word.specs.declared.Operands.{Operands}
use Rattle.word.specs.declared.Refusal.TheVariants.{UnsetRead}
use Rattle.control.specs.declared.Control.{Control}
use Rattle.rules.specs.Rules.{Judged, ◌when◌, operand_rules, lowest}
use Rattle.rules.specs.Access.{reads_of, sets_of, unsets_of}
use Rattle.precheck.specs.Marks.{Marks, reads_set, instruction_marks}
use Rattle.word.specs.declared.Refusal.{Refusal}

unfoldable pub instruction_rules : Control → Marks → ℕ → Operands → List Judged
instruction_rules c m t f = operand_rules c t f ++ ((UnsetRead when not (reads_set m (reads_of c t f))) ∷ [])

unfoldable pub marks_after : Control → Marks → ℕ → Operands → Marks
marks_after c m t f = instruction_marks m (sets_of c t f) (unsets_of c f)

-- v is the verdict on thread t's instruction f, and n are the marks after it, where it breaks no rule
pub record InstructionChecked (c : Control) (m : Marks) (t : ℕ) (f : Operands) (v : Result ⊤ Refusal) (n : Marks) : Type 0 where
  pub verdict : v ≡ lowest (instruction_rules c m t f)
  pub marked : v ≡ Ok tt → n ≡ marks_after c m t f
