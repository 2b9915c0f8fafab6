-- `numbers::record::read_record` meets its contract: the length, then each part, read and compared. Assumes nothing.
use mathlib.Core.Path.{◌≡◌, refl, sym, ◌∙◌}
use mathlib.Core.List.{List, [], ◌∷◌}
use Prim.Native.Nat.{ℕ}
use borrow.Author.Tests.{ne_eqb}
use Rattle.control.specs.declared.Settings.{Settings}
use Rattle.control.specs.declared.Banks.{Banks}
use Rattle.numbers.specs.Places.{banks_a, banks_b, last_row}
use Rattle.numbers.specs.Lists.{shared_numbers}
use Rattle.numbers.specs.Record.{byte, settings_from, banks_from, control_from, number_from, stands}
use Rattle.numbers.proofs.Stands.{same_thread, all_parts, read_some, read_none}
use Rattle.numbers.proofs.Tested.{given, given_none}
use Rattle.numbers.proofs.record.read_record.Goals as goal

module _ (l : List ℕ) where
  -- what the threads share, as it was read
  shared : {s : Settings} {a b : Banks} {xs : List ℕ} → s ≡ settings_from (number_from l) → a ≡ banks_from (number_from l) banks_a → b ≡ banks_from (number_from l) banks_b
      → xs ≡ shared_numbers s a b (byte (number_from l last_row))
      → xs ≡ shared_numbers (settings_from (number_from l)) (banks_from (number_from l) banks_a) (banks_from (number_from l) banks_b) (byte (number_from l last_row))
  shared s a b e = e ∙ (λ i. shared_numbers (s i) (a i) (b i) (byte (number_from l last_row)))

pub returns-then-n-ne-RECORD : goal.returns-then-n-ne-RECORD
unfolding stands
returns-then-n-ne-RECORD c = simp (ne_eqb _ _ c.if-n-ne-RECORD.true)

pub returns-then-not-stand : goal.returns-then-not-stand
returns-then-not-stand c = let l = c.args.n.now in
    let read = shared l c.read_settings-settings.ensures c.read_banks-a.ensures c.read_banks-b.ensures c.shared_numbers.ensures in
    read_none l (all_parts l read (sym c.if-not-stand.true ∙ c.stand.ensures) refl refl refl)

pub returns-in_err-x : goal.returns-in_err-x
returns-in_err-x c = let l = c.args.n.now in
    let read = shared l c.read_settings-settings.ensures c.read_banks-a.ensures c.read_banks-b.ensures c.shared_numbers.ensures in
    let x = given_none _ (same_thread l 0) (sym c.in_err-x.was ∙ c.read_thread.ensures) in
    c.from_residual.ensures ∙ read_none l (all_parts l read (sym c.if-not-stand.false ∙ c.stand.ensures) (sym x) refl refl)

pub returns-in_err-y : goal.returns-in_err-y
returns-in_err-y c = let l = c.args.n.now in
    let read = shared l c.read_settings-settings.ensures c.read_banks-a.ensures c.read_banks-b.ensures c.shared_numbers.ensures in
    let x = given _ (same_thread l 0) (sym c.in_ok-x.was ∙ c.read_thread.ensures) in
    let y = given_none _ (same_thread l 1) (sym c.in_err-y.was ∙ c.read_thread-2.ensures) in
    c.from_residual-in_err-y.ensures ∙ read_none l (all_parts l read (sym c.if-not-stand.false ∙ c.stand.ensures) (sym x.0) (sym y) refl)

pub returns-in_err-z : goal.returns-in_err-z
returns-in_err-z c = let l = c.args.n.now in
    let read = shared l c.read_settings-settings.ensures c.read_banks-a.ensures c.read_banks-b.ensures c.shared_numbers.ensures in
    let x = given _ (same_thread l 0) (sym c.in_ok-x.was ∙ c.read_thread.ensures) in
    let y = given _ (same_thread l 1) (sym c.in_ok-y.was ∙ c.read_thread-2.ensures) in
    let z = given_none _ (same_thread l 2) (sym c.in_err-z.was ∙ c.read_thread-3.ensures) in
    c.from_residual-in_err-z.ensures ∙ read_none l (all_parts l read (sym c.if-not-stand.false ∙ c.stand.ensures) (sym x.0) (sym y.0) (sym z))

pub returns : goal.returns
unfolding control_from
returns c = let l = c.args.n.now in
    let s = c.read_settings-settings.ensures in
    let a = c.read_banks-a.ensures in
    let b = c.read_banks-b.ensures in
    let read = shared l s a b c.shared_numbers.ensures in
    let x = given _ (same_thread l 0) (sym c.in_ok-x.was ∙ c.read_thread.ensures) in
    let y = given _ (same_thread l 1) (sym c.in_ok-y.was ∙ c.read_thread-2.ensures) in
    let z = given _ (same_thread l 2) (sym c.in_ok-z.was ∙ c.read_thread-3.ensures) in
    read_some l c.if-n-ne-RECORD.false (all_parts l read (sym c.if-not-stand.false ∙ c.stand.ensures) (sym x.0) (sym y.0) (sym z.0))
    (λ i. record { settings = s i; threads = x.1 i ∷ y.1 i ∷ z.1 i ∷ []; a = a i; b = b i; last = byte (number_from l last_row) })
