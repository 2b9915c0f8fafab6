-- The words in which document 01 says what an instruction means, all but the lent numbers: an instruction is `quiet`, and then what its class says.
-- What the words ask for and bring about stands in After.antt, Access.antt and Rules.antt. Definitions only.
use Rattle.std.specs.Prelude.{Bool, true, false, ℕ}
use Rattle.cells.specs.declared.layout.Span.{Span}
use Rattle.cells.specs.Layout.{no_span}
use Rattle.cells.specs.declared.layout.ByFile.{ByFile}
use Rattle.word.specs.declared.Height.{Height}
use Rattle.word.specs.declared.SetCounters.{SetCounters}
use Rattle.word.specs.declared.AddCounters.{AddCounters}
use Rattle.control.specs.declared.Settings.{Settings}
use Rattle.control.specs.declared.Control.{Control}
use Rattle.rules.specs.declared.Reads.{Reads}

-- the banks at the matrix pointers that an instruction needs
pub data Needs : Type 0 where
  Neither : Needs
  BankA : Needs
  BankB : Needs
  Both : Needs

-- the Dst rows that it works on: none, or those of a height, the first of which its field dst gives
pub data DstRows : Type 0 where
  NoRows : DstRows
  RowsFrom : Height → ℕ → DstRows

-- what becomes of the thread's counters and of the last SrcA row: nothing; a slot acts on the counters; a slot acts, and the last row becomes the one that
-- the SrcA counter gave before; what SETRWC does; what INCRWC does
pub data Move : Type 0 where
  Stay : Move
  Slot : ℕ → Move
  SlotAndLast : ℕ → Move
  Set : SetCounters → Move
  Add : AddCounters → Move

-- the rows and registers that it sets, and those that its clear unsets
pub record Sets : Type 0 where
  pub a : Span
  pub b : Span
  pub registers : Span

pub record Unsets : Type 0 where
  pub a : Span
  pub b : Span

pub record Meaning : Type 0 where
  -- 4: its mode is undefined
  pub undefined : Bool
  -- 5: the settings that it is modelled for
  pub modelled : Settings → Bool
  -- 6: the banks that the matrix unit has to own
  pub needs : Needs
  -- 7: its Dst rows, the first of which has to be inside Dst
  pub dst : DstRows
  -- the rows and registers that it reads and that it sets, under a record and for a thread
  pub reads : Control → ℕ → Reads
  pub sets : Control → ℕ → Sets
  -- the files that it clears: of each, the bank at the matrix pointer is given back and unset, or kept, as the file's switch says
  pub clear : ByFile Bool
  -- what else becomes of the record, after the clear
  pub move : Move

-- ---- nothing

abbrev pub no_reads : Reads
no_reads = record { a = no_span; b = no_span; dst = no_span; rega = no_span; regb = no_span }

abbrev pub no_sets : Sets
no_sets = record { a = no_span; b = no_span; registers = no_span }

abbrev pub no_clear : ByFile Bool
no_clear = record { a = false; b = false }

-- an instruction of which nothing is said
abbrev pub quiet : Meaning
quiet =
    record {
      undefined = false;
      modelled = λ s. true;
      needs = Neither;
      dst = NoRows;
      reads = λ c t. no_reads;
      sets = λ c t. no_sets;
      clear = no_clear;
      move = Stay;
    }

-- ---- what is said of one: each word replaces its own part

infixl 10 ◌·◌
abbrev pub ◌·◌ : Meaning → (Meaning → Meaning) → Meaning
m · f = f m

abbrev pub undefined_if : Bool → Meaning → Meaning
undefined_if x m =
    record { undefined = x; modelled = m.modelled; needs = m.needs; dst = m.dst; reads = m.reads; sets = m.sets; clear = m.clear; move = m.move }

abbrev pub modelled_for : (Settings → Bool) → Meaning → Meaning
modelled_for x m =
    record { undefined = m.undefined; modelled = x; needs = m.needs; dst = m.dst; reads = m.reads; sets = m.sets; clear = m.clear; move = m.move }

abbrev pub needing : Needs → Meaning → Meaning
needing x m =
    record { undefined = m.undefined; modelled = m.modelled; needs = x; dst = m.dst; reads = m.reads; sets = m.sets; clear = m.clear; move = m.move }

abbrev pub on_dst : Height → ℕ → Meaning → Meaning
on_dst h d m =
    record { undefined = m.undefined; modelled = m.modelled; needs = m.needs; dst = RowsFrom h d; reads = m.reads; sets = m.sets; clear = m.clear; move = m.move }

abbrev pub reading : (Control → ℕ → Reads) → Meaning → Meaning
reading x m =
    record { undefined = m.undefined; modelled = m.modelled; needs = m.needs; dst = m.dst; reads = x; sets = m.sets; clear = m.clear; move = m.move }

abbrev pub setting : (Control → ℕ → Sets) → Meaning → Meaning
setting x m =
    record { undefined = m.undefined; modelled = m.modelled; needs = m.needs; dst = m.dst; reads = m.reads; sets = x; clear = m.clear; move = m.move }

abbrev pub clearing : ByFile Bool → Meaning → Meaning
clearing x m =
    record { undefined = m.undefined; modelled = m.modelled; needs = m.needs; dst = m.dst; reads = m.reads; sets = m.sets; clear = x; move = m.move }

abbrev pub moving : Move → Meaning → Meaning
moving x m =
    record { undefined = m.undefined; modelled = m.modelled; needs = m.needs; dst = m.dst; reads = m.reads; sets = m.sets; clear = m.clear; move = x }

-- ---- what is read and set: rows of SrcA, of SrcB and of Dst; registers

abbrev pub rows_read : Span → Span → Span → Reads
rows_read a b dst = record { a = a; b = b; dst = dst; rega = no_span; regb = no_span }

abbrev pub registers_read : Span → Span → Reads
registers_read a b = record { a = no_span; b = no_span; dst = no_span; rega = a; regb = b }

abbrev pub rows_set : Span → Span → Sets
rows_set a b = record { a = a; b = b; registers = no_span }

abbrev pub registers_set : Span → Sets
registers_set r = record { a = no_span; b = no_span; registers = r }
