-- The lengths of the four files of a state. Assumes nothing.
use mathlib.Core.Path.{◌≡◌}
use mathlib.Core.Bool.{true, false}
use lib.ListN.{length}
use borrow.Author.Tests.{eqb-true, eq-eqb}
use Rattle.cells.specs.Layout.{src_numbers, dst_numbers, register_count}
use Rattle.cells.specs.State.{State, size_tests, sized}
use Rattle.cells.proofs.Cells.{split}
use Rattle.cells.proofs.Tests.{each_of, all_of}

pub record Sizes (s : State) : Type 0 where
  pub srca : length s.srca ≡ src_numbers
  pub srcb : length s.srcb ≡ src_numbers
  pub dst : length s.dst ≡ dst_numbers
  pub registers : length s.registers ≡ register_count

pub sizes : (s : State) → sized s ≡ true → Sizes s
unfolding sized
sizes s h =
    let e = each_of (size_tests s) h in
    record {
      srca = eqb-true (length s.srca) src_numbers e.0;
      srcb = eqb-true (length s.srcb) src_numbers e.1.0;
      dst = eqb-true (length s.dst) dst_numbers e.1.1.0;
      registers = eqb-true (length s.registers) register_count e.1.1.1.0;
    }

pub sized_of : (s : State) → Sizes s → sized s ≡ true
unfolding sized
sized_of s h =
    all_of (size_tests s)
    (eq-eqb (length s.srca) src_numbers h.srca, (eq-eqb (length s.srcb) src_numbers h.srcb, (eq-eqb (length s.dst) dst_numbers h.dst, (eq-eqb (length s.registers) register_count h.registers, tt))))

pub unsized : (s : State) → (Sizes s → ⊥) → sized s ≡ false
unsized s none = split (sized s) (λ e. absurd (none (sizes s e))) (λ e. e)
