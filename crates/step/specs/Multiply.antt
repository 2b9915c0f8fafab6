-- MVMUL, DOTPV, GAPOOL: document 01, "Multiply", the numbers. Definitions only.
use Rattle.std.specs.Prelude.{ℕ}
use Rattle.cells.specs.Layout.{bank_row}
use Rattle.cells.specs.State.{State, with_dst}
use Rattle.word.specs.declared.Multiply.{Multiply}
use Rattle.control.specs.declared.Control.{Control}
use Rattle.control.specs.Record.{width_of}
use Rattle.product.specs.declared.Product.{Product}
use Rattle.product.specs.Product.{multiplied}
use Rattle.rules.specs.Multiply.{height_rows, row_a, row_b, row_dst, phase_of}

-- both files' rows in the banks at the matrix pointers
unfoldable pub product_of : Control → ℕ → Multiply → Product
product_of c t m =
    record {
      width = width_of c.settings;
      format = c.settings.format;
      phase = phase_of c t;
      a = bank_row c.a.matrix (row_a c t);
      b = bank_row c.b.matrix (row_b c t);
      dst = row_dst c t m.height m.dst;
      rows = height_rows m.height;
    }

abbrev pub multiply_effect : Control → ℕ → Multiply → State → State
multiply_effect c t m s = with_dst s (multiplied (product_of c t m) s.srca s.srcb s.dst)
