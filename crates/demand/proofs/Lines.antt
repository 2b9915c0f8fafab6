-- The lines of an output whose rows or register are set: the same over two states that agree. Assumes nothing.
use mathlib.Core.Path.{◌≡◌, refl}
use mathlib.Core.Bool.{Bool, true, false, not}
use mathlib.Core.List.{List, [], ◌∷◌}
use Prim.Native.Nat.{ℕ, zero, suc, ◌+◌, ◌≤◌, ◌<◌}
use native.Mathlib.Omega.{arith}
use borrow.Author.Tests.{not-false}
use lib.ListN.{get_or}
use Rattle.std.specs.Prelude.{Result, Ok, Err}
use Rattle.cells.specs.declared.Width.{Width}
use Rattle.cells.proofs.Cells.{between_in}
use Rattle.cells.proofs.Same.{Same, number_same}
use Rattle.word.specs.declared.Refusal.TheVariants.{UnsetRead}
use Rattle.control.specs.declared.Control.{Control}
use Rattle.cells.specs.Layout.{dst_numbers, register_count, register, one_register}
use Rattle.rules.specs.Rules.{lowest}
use Rattle.cells.specs.State.{State}
use Rattle.job.specs.declared.Cause.{Cause}
use Rattle.job.specs.declared.Output.{Output}
use Rattle.job.specs.declared.Output.TheVariants.{Rows, Register}
use Rattle.job.specs.declared.Kind.{Kind}
use Rattle.job.specs.declared.Kind.TheVariants as kind
use Rattle.job.proofs.Says.{OutputSays, Says}
use Rattle.precheck.specs.Marks.{Marks, all_set}
use Rattle.precheck.specs.Judging.{output_rules, field_rules}
use Rattle.lines.specs.Lines.{row, value, columns, row_lines, output_lines, field_lines}
use Rattle.demand.proofs.Rules.{alone_done}
use Rattle.demand.proofs.MarksStay.{Stays}
use Rattle.demand.proofs.Agreement.{Agree, by_row, alone, set_at, one_set, cell_same}

module _ (w : Width) (n : ℕ) (m : List Bool) (d e : List ℕ) (s : Same w by_row n m d e) where
  columns_same : (r k count : ℕ) → k + count ≤ 16 → get_or m r false ≡ true → columns w d r k count ≡ columns w e r k count
  unfolding columns
  columns_same r k zero l t = refl
  columns_same r k (suc count) l t =
      λ i. cell_same w n m d e s r k (omega arith) t i ∷ columns_same r (suc k) count (omega arith) t i

  rows_same : (first count : ℕ) → ((r : ℕ) → first ≤ r → r < first + count → get_or m r false ≡ true) → row_lines w d first count ≡ row_lines w e first count
  unfolding row_lines
  rows_same first zero h = refl
  rows_same first (suc count) h =
      λ i. row w first (columns_same first 0 16 (omega arith) (h first (omega arith) (omega arith)) i)
      ∷ rows_same (suc first) count (λ r a b. h r (omega arith) (omega arith)) i

-- an output that breaks no rule under the marks m prints the same under any marks n that m stays in
output_same : (w : Width) (tag : ℕ) (p : List ℕ) (m n : Marks) (o : Output) (d e : State) → OutputSays w tag p o → lowest (output_rules m o) ≡ Ok tt → Stays m n → Agree w n d e
    → output_lines o d ≡ output_lines o e
unfolding output_lines
output_same w tag p m n (Rows v rows) d e i h z s =
    let set = not-false _ (alone_done UnsetRead (not (all_set m.dst rows)) h) in
    rw i.1
    (rows_same w dst_numbers n.dst d.dst e.dst s.dst rows.first rows.count
    (λ r a b. z.dst r (set_at m.dst rows r set (between_in rows.first (rows.first + rows.count) r a b))))
output_same w tag p m n (Register t r) d e i h z s =
    let set = not-false _ (alone_done UnsetRead (not (all_set m.registers (one_register t r))) h) in
    λ j. value t r (number_same alone register_count n.registers d.registers e.registers s.registers (register t r) (z.registers (register t r) (one_set m.registers (register t r) set)) j) ∷ []

pub lines_same : (w : Width) (tag : ℕ) (p : List ℕ) (c : Control) (m n : Marks) (k : Result Kind Cause) (d e : State) → Says w tag p k → lowest (field_rules c m k) ≡ Ok tt → Stays m n → Agree w n d e
    → field_lines k d ≡ field_lines k e
unfolding field_lines field_rules
lines_same w tag p c m n (Ok kind.Settings) d e i h z s = refl
lines_same w tag p c m n (Ok (kind.Issue t x)) d e i h z s = refl
lines_same w tag p c m n (Ok (kind.HandOver file)) d e i h z s = refl
lines_same w tag p c m n (Ok (kind.Writes x)) d e i h z s = refl
lines_same w tag p c m n (Ok (kind.Prints o)) d e i h z s = output_same w tag p m n o d e i h z s
lines_same w tag p c m n (Err x) d e i h z s = refl
