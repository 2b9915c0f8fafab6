-- Which instructions set the last SrcA row, by their opcodes. Assumes nothing.
use Rattle.std.specs.Prelude.{Result, Ok, Err, ⊤}
use mathlib.Core.Path.{◌≡◌, refl, ap, ◌∙◌}
use mathlib.Core.Bool.{Bool, true, false, cond}
use Prim.Native.Nat.{ℕ}
use Rattle.cells.specs.State.{State}
use Rattle.cells.specs.Tests.{one_of}
use Rattle.word.specs.Table.{table}
use Rattle.word.specs.Operands.{opcode_of, operands_of}
use Rattle.word.specs.declared.Class.{Class}
use Rattle.word.specs.declared.Class.TheVariants as class
use Rattle.word.specs.declared.Operands.{Operands}
use Rattle.word.proofs.Every.{◌and◌}
use Rattle.control.specs.declared.Control.{Control}
use Rattle.rules.specs.Multiply.{row_a}
use Rattle.rules.specs.Instructions.{meaning_of}
use Rattle.rules.specs.After.{last_by, acting, control_after}
use Rattle.rules.proofs.AfterKeeps.{last_after}
use Rattle.step.specs.Step.{if_done, verdict_of, stepped_of}
use Rattle.demand.specs.Demand.{row_leaving, LastRow}
use Rattle.demand.proofs.Steps.{step_demand1}
use Rattle.demand.proofs.ByOpcode.{ByOpcodes, done_acts}
use Rattle.word.specs.declared.Refusal.{Refusal}

-- by class, and the classes of the table's rows
abbrev leaving : Class → Bool
leaving class.Multiply = true
leaving class.Legacy = true
leaving class.SetCounters = false
leaving class.AddCounters = false
leaving class.ZeroSrc = false
leaving class.ShiftA = false
leaving class.ShiftB = false
leaving class.NoEffect = false
leaving class.Scalar = false

by_class : (k : Class) (w row last : ℕ) → last_by (meaning_of (operands_of k w)).move row last ≡ cond (leaving k) row last
by_class class.Multiply w row last = refl
by_class class.Legacy w row last = refl
by_class class.SetCounters w row last = refl
by_class class.AddCounters w row last = refl
by_class class.ZeroSrc w row last = refl
by_class class.ShiftA w row last = refl
by_class class.ShiftB w row last = refl
by_class class.NoEffect w row last = refl
by_class class.Scalar w row last = refl

by_row_lem : ByOpcodes leaving row_leaving
unfolding table
by_row_lem =
    refl and refl and refl and refl and refl and refl and refl and refl and refl and refl and refl and refl and refl and refl and refl and refl and
    refl and refl and refl and refl and tt

module _ (c : Control) (t w : ℕ) (s : State) where
  done_last : verdict_of c t w s ≡ Ok tt → (stepped_of c t w s).control.last ≡ cond (one_of (opcode_of w) row_leaving) (row_a c t) c.last
  unfolding stepped_of control_after
  done_last e =
      let a = done_acts c t w s e in
      ap (λ (v : Result ⊤ Refusal). (if_done v (control_after c t w) c).last) e
      ∙ last_after c t (acting w)
      ∙ ap (λ (f : Operands). last_by (meaning_of f).move (row_a c t) c.last) a.operands
      ∙ by_class a.class w (row_a c t) c.last
      ∙ ap (λ (b : Bool). cond b (row_a c t) c.last) (a.told leaving row_leaving by_row_lem)

  stays_last : one_of (opcode_of w) row_leaving ≡ false → (v : Result ⊤ Refusal) → verdict_of c t w s ≡ v → (stepped_of c t w s).control.last ≡ c.last
  stays_last h (Ok u) e = done_last e ∙ ap (λ (b : Bool). cond b (row_a c t) c.last) h
  stays_last h (Err r) e = ap (λ (c : Control). c.last) ((step_demand1 c t w s).record_kept r e)

  pub last_row_lem : LastRow c t w s
  unfolding row_a
  last_row_lem =
      record {
        left = λ h e. done_last e ∙ ap (λ (b : Bool). cond b (row_a c t) c.last) h;
        stays = λ h. stays_last h (verdict_of c t w s) refl;
      }
