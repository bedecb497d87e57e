-- Records that are counted as acknowledged, one record on.
use Rattle.std.proofs.Common.{◌≡◌, ◌≢◌, ℕ, ◌+◌, ◌≤◌, List, ◌∷◌, length, drop, Some, false, refl, sym, ap, ◌∙◌, arith, suc, slice_get}
use Rattle.std.specs.Prelude.{◌==◌}
use Rattle.std.proofs.lemmas.List.{drop_all}
use Rattle.sg_list.proofs.ListLemmas.{drop-get}
use Rattle.sg_window.specs.Window.{mark_from}
use Rattle.sg_window.specs.declared.tracker.BegunRecord.{BegunRecord}
use Rattle.sg_machine.specs.declared.setup.SourceSetup.{SourceSetup}
use Rattle.sg_machine.specs.declared.running.SourceRun.{SourceRun}
use Rattle.sg_machine.specs.Running.{acked_in}
use Rattle.sg_machine.specs.Turns.{trimmed}

abbrev mk : SourceSetup → ℕ → List BegunRecord → ℕ → ℕ → SourceRun
mk u v w a m = record { setup = u; stored = v; records = w; acked = a; mark = m }

same-source : (x y : SourceRun) → x.setup ≡ y.setup → x.stored ≡ y.stored → x.records ≡ y.records → x.acked ≡ y.acked → x.mark ≡ y.mark → x ≡ y
same-source x y a b c d e =
    ap (λ u. mk u x.stored x.records x.acked x.mark) a
    ∙ ap (λ u. mk y.setup u x.records x.acked x.mark) b
    ∙ ap (λ u. mk y.setup y.stored u x.acked x.mark) c
    ∙ ap (λ u. mk y.setup y.stored y.records u x.mark) d
    ∙ ap (λ u. mk y.setup y.stored y.records y.acked u) e

acked-first : (r : BegunRecord) (rs : List BegunRecord) → r.left ≡ 0 → acked_in (r ∷ rs) ≡ suc (acked_in rs)
acked-first r rs h = rw h refl

mark-first : (from : ℕ) (r : BegunRecord) (rs : List BegunRecord) → r.left ≡ 0 → mark_from from (r ∷ rs) ≡ mark_from r.end rs
mark-first from r rs h = rw h refl

owes-if : (n : ℕ) → n ≢ 0 → (n == 0) ≡ false
owes-if n h = grind arith

pub trimmed-more : (s : SourceRun) (r : BegunRecord) → slice_get s.records s.acked ≡ Some r → r.left ≡ 0 → trimmed (record s { acked = s.acked + 1; mark = r.end }) ≡ trimmed s
trimmed-more s r g h =
    let rs = drop (s.acked + 1) s.records in
    let parts = drop-get s.records s.acked r g in
    let a : acked_in (drop s.acked s.records) ≡ suc (acked_in rs) = rw parts (acked-first r rs h) in
    let b : mark_from s.mark (drop s.acked s.records) ≡ mark_from r.end rs = rw parts (mark-first s.mark r rs h) in
    same-source _ _ refl refl refl (omega arith) (sym b)

pub trimmed-stop : (s : SourceRun) (r : BegunRecord) → slice_get s.records s.acked ≡ Some r → r.left ≢ 0 → trimmed s ≡ s
trimmed-stop s r g h =
    let rs = drop (s.acked + 1) s.records in
    let parts = drop-get s.records s.acked r g in
    let no = owes-if r.left h in
    let a : acked_in (drop s.acked s.records) ≡ 0 = rw (parts, no) refl in
    let b : mark_from s.mark (drop s.acked s.records) ≡ s.mark = rw (parts, no) refl in
    same-source _ _ refl refl refl (omega arith) b

pub trimmed-all : (s : SourceRun) → length s.records ≤ s.acked → trimmed s ≡ s
trimmed-all s h =
    let none = drop_all s.acked s.records h in
    let a : acked_in (drop s.acked s.records) ≡ 0 = rw none refl in
    let b : mark_from s.mark (drop s.acked s.records) ≡ s.mark = rw none refl in
    same-source _ _ refl refl refl (omega arith) b

pub trimmed-at : (s : SourceRun) (k : ℕ) (r : BegunRecord) → s.acked ≡ k → slice_get s.records k ≡ Some r → r.left ≡ 0 → trimmed (record s { acked = k + 1; mark = r.end }) ≡ trimmed s
trimmed-at s k r e g h = ap (λ n. trimmed (record s { acked = n + 1; mark = r.end })) (sym e) ∙ trimmed-more s r (rw e g) h
