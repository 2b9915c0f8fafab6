-- A field that breaks no rule keeps two states in agreement. Assumes nothing.
use mathlib.Core.Path.{◌≡◌, refl}
use mathlib.Core.Bool.{true}
use mathlib.Core.List.{List, [], ◌∷◌}
use Prim.Native.Nat.{ℕ, ◌<◌}
use borrow.Author.Tests.{not-false, ltb-true}
use Rattle.std.specs.Prelude.{Result, Ok, Err}
use Rattle.cells.specs.Layout.{thread_count, src_numbers, dst_numbers, register_count, one_register}
use Rattle.cells.specs.declared.Width.{Width}
use Rattle.cells.specs.declared.Width.TheVariants.{Bits32}
use Rattle.cells.specs.Cells.{in_span}
use Rattle.cells.proofs.Same.{written as overwritten, numbers_over}
use Rattle.cells.specs.declared.layout.File.TheVariants.{A, B}
use Rattle.word.specs.declared.Refusal.TheVariants.{UnsetRead}
use Rattle.control.specs.declared.Control.{Control}
use Rattle.control.specs.Range.{in_range}
use Rattle.control.specs.Record.{width_of}
use Rattle.rules.specs.Rules.{◌when◌, rules, lowest}
use Rattle.rules.specs.After.{acting}
use Rattle.rules.specs.Access.{reads_of, word_sets, word_unsets}
use Rattle.rules.proofs.Reading.{parts_done, judged_acts}
use Rattle.cells.specs.State.{State}
use Rattle.step.specs.Effect.{effect_of, state_after}
use Rattle.step.specs.Step.{state_of}
use Rattle.cells.proofs.Sizes.{Sizes}
use Rattle.job.specs.declared.Cause.{Cause}
use Rattle.job.specs.Fields.{payload_at}
use Rattle.job.proofs.Says.{WriteSays, Says}
use Rattle.job.specs.declared.Write.{Write}
use Rattle.job.specs.declared.Write.TheVariants.{LoadSrc, LoadDst, LoadRegister, ZeroRows}
use Rattle.job.specs.declared.Kind.{Kind}
use Rattle.job.specs.declared.Kind.TheVariants as kind
use Rattle.precheck.specs.Marks.{Marks, reads_set, mark_src, mark_dst, mark_register}
use Rattle.walk.specs.FieldRecord.{loaded_rows}
use Rattle.precheck.specs.Judging.{unset_read, field_rules}
use Rattle.precheck.specs.Marking.{write_marks, field_marks}
use Rattle.job.specs.Loading.{loaded}
use Rattle.precheck.proofs.Checking.{issue_judged}
use Rattle.run.specs.Perform.{written, performed}
use Rattle.run.proofs.Running.{step_done}
use Rattle.demand.proofs.Rules.{alone_done}
use Rattle.demand.specs.Breaks.{is_issue}
use Rattle.demand.proofs.Agreement.{Agree, by_row, alone, word_agrees}

-- ---- an instruction

module _ (c : Control) (m : Marks) (t w : ℕ) (h : lowest (field_rules c m (Ok (kind.Issue t w))) ≡ Ok tt) where
  -- all that it reads is set
  reads_set_lem : reads_set m (reads_of c t (acting w)) ≡ true
  unfolding field_rules
  reads_set_lem =
      rw (judged_acts c t w (issue_judged c m t w h))
      (not-false _ (alone_done UnsetRead (unset_read c m t w) (parts_done (rules c t w) ((UnsetRead when unset_read c m t w) ∷ []) h).1))

  -- and its single step is done
  state_is : in_range c ≡ true → t < thread_count → (s : State) → Sizes s → state_of c t w s ≡ effect_of c t (acting w) s
  unfolding state_of state_after
  state_is range thread s size = rw (step_done c m range s size t w thread h)

-- ---- any field

pub left_sizes : {w : Width} {m : Marks} {d e : State} → Agree w m d e → Sizes d
left_sizes s = record { srca = s.srca.left; srcb = s.srcb.left; dst = s.dst.left; registers = s.registers.left }

pub right_sizes : {w : Width} {m : Marks} {d e : State} → Agree w m d e → Sizes e
right_sizes s = record { srca = s.srca.right; srcb = s.srcb.right; dst = s.dst.right; registers = s.registers.right }

-- a field with this tag and payload, in a job whose Dst rows have width w
module _ (c : Control) (m : Marks) (range : in_range c ≡ true) (w : Width) (d e : State) (s : Agree w m d e) (tag : ℕ) (p : List ℕ) where
  -- the states agree after it, where the record has the width too
  write_agrees : (job : List ℕ) (place : ℕ) (x : Write) → WriteSays w tag p x → Agree w (write_marks c m x) (written (payload_at job place) c x d) (written (payload_at job place) c x e)
  unfolding written loaded mark_src mark_dst mark_register
  write_agrees job place (LoadSrc A rows) i =
      record { srca = overwritten Bits32 by_row src_numbers m.srca d.srca e.srca s.srca (loaded_rows c A rows) _; srcb = s.srcb; dst = s.dst; registers = s.registers }
  write_agrees job place (LoadSrc B rows) i =
      record { srca = s.srca; srcb = overwritten Bits32 by_row src_numbers m.srcb d.srcb e.srcb s.srcb (loaded_rows c B rows) _; dst = s.dst; registers = s.registers }
  write_agrees job place (LoadDst v rows) i =
      rw i.5 (record { srca = s.srca; srcb = s.srcb; dst = overwritten w by_row dst_numbers m.dst d.dst e.dst s.dst rows _; registers = s.registers })
  write_agrees job place (LoadRegister t r) i =
      record {
        srca = s.srca;
        srcb = s.srcb;
        dst = s.dst;
        registers = numbers_over alone register_count m.registers d.registers e.registers s.registers (in_span (one_register t r)) _ _ (λ i q. refl);
      }
  write_agrees job place (ZeroRows v rows) i =
      rw i.1 (record { srca = s.srca; srcb = s.srcb; dst = overwritten w by_row dst_numbers m.dst d.dst e.dst s.dst rows _; registers = s.registers })

  pub field_agrees : (job : List ℕ) (place : ℕ) (k : Result Kind Cause) → Says w tag p k → (is_issue k ≡ true → width_of c.settings ≡ w) → lowest (field_rules c m k) ≡ Ok tt
      → Agree w (field_marks c m k) (performed job c place k d) (performed job c place k e)
  unfolding field_marks performed word_sets word_unsets
  field_agrees job place (Ok kind.Settings) i q h = s
  field_agrees job place (Ok (kind.Issue t x)) i q h =
      let l = ltb-true t thread_count i.0 in
      rw (state_is c m t x h range l d (left_sizes s), state_is c m t x h range l e (right_sizes s))
      (word_agrees w m d e s c t (acting x) (q refl) (reads_set_lem c m t x h))
  field_agrees job place (Ok (kind.HandOver file)) i q h = s
  field_agrees job place (Ok (kind.Writes x)) i q h = write_agrees job place x i
  field_agrees job place (Ok (kind.Prints o)) i q h = s
  field_agrees job place (Err x) i q h = s
