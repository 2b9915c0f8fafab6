-- Along the fields of a job no mark of a Dst row or of a register is taken away. Assumes nothing.
use mathlib.Core.Path.{◌≡◌}
use mathlib.Core.Bool.{Bool, true, false}
use mathlib.Core.List.{List}
use Prim.Native.Nat.{ℕ}
use lib.ListN.{get_or}
use Rattle.std.specs.Prelude.{Result, Ok, Err}
use Rattle.cells.specs.Cells.{in_span}
use Rattle.cells.proofs.Cells.{over_true}
use Rattle.cells.specs.declared.layout.File.TheVariants.{A, B}
use Rattle.control.specs.declared.Control.{Control}
use Rattle.rules.specs.Access.{word_sets}
use Rattle.job.specs.declared.Cause.{Cause}
use Rattle.job.specs.declared.Write.{Write}
use Rattle.job.specs.declared.Write.TheVariants.{LoadSrc, LoadDst, LoadRegister, ZeroRows}
use Rattle.job.specs.declared.Kind.{Kind}
use Rattle.job.specs.declared.Kind.TheVariants as kind
use Rattle.precheck.specs.Marks.{Marks}
use Rattle.precheck.specs.Marks.{mark_src, mark_dst, mark_register, instruction_marks}
use Rattle.precheck.specs.Marking.{write_marks, field_marks}

-- each mark of m stands in n
abbrev pub In : List Bool → List Bool → Type 0
In m n = (r : ℕ) → get_or m r false ≡ true → get_or n r false ≡ true

pub record Stays (m n : Marks) : Type 0 where
  pub dst : In m.dst n.dst
  pub registers : In m.registers n.registers

pub stays : (m : Marks) → Stays m m
stays m = record { dst = λ r t. t; registers = λ r t. t }

pub stays_on : (l m n : Marks) → Stays l m → Stays m n → Stays l n
stays_on l m n p q = record { dst = λ r t. q.dst r (p.dst r t); registers = λ r t. q.registers r (p.registers r t) }

write_stays : (c : Control) (m : Marks) (x : Write) → Stays m (write_marks c m x)
unfolding mark_src mark_dst mark_register
write_stays c m (LoadSrc A rows) = record { dst = λ r t. t; registers = λ r t. t }
write_stays c m (LoadSrc B rows) = record { dst = λ r t. t; registers = λ r t. t }
write_stays c m (LoadDst w rows) = record { dst = over_true (in_span rows) m.dst; registers = λ r t. t }
write_stays c m (LoadRegister t r) = record { dst = λ r t. t; registers = over_true _ m.registers }
write_stays c m (ZeroRows w rows) = record { dst = over_true (in_span rows) m.dst; registers = λ r t. t }

pub marks_stay : (c : Control) (m : Marks) (k : Result Kind Cause) → Stays m (field_marks c m k)
unfolding field_marks instruction_marks
marks_stay c m (Ok kind.Settings) = stays m
marks_stay c m (Ok (kind.Issue t w)) = record { dst = λ r t. t; registers = over_true (in_span (word_sets c t w).registers) m.registers }
marks_stay c m (Ok (kind.HandOver file)) = stays m
marks_stay c m (Ok (kind.Writes x)) = write_stays c m x
marks_stay c m (Ok (kind.Prints o)) = stays m
marks_stay c m (Err x) = stays m
