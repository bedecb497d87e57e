-- Positions are below 2 ^ 63, as the ends of records are.
use Rattle.std.proofs.Common.{◌≡◌, ℕ, ◌<◌, List, [], ◌∷◌, ◌++◌, length, Some, Bool, true, false, sym, ◌∙◌, subst, arith, inl, inr, if◌then◌else◌, slice_get}
use Rattle.std.specs.Prelude.{◌^◌, ◌==◌, nat_lt, nat_le, Contains}
use Rattle.std.specs.List.{list_all}
use Rattle.std.proofs.lemmas.List.Elements.{Contains-append_cases}
use Rattle.sg_list.specs.Lists.{passes_at}
use Rattle.sg_list.proofs.ListLemmas.{passes_at-some, some-same}
use Rattle.sg_machine.specs.declared.event.Act.{Act}
use Rattle.sg_machine.specs.declared.event.Act.TheVariants.{Admit, Settle, Refill, Store, Rewind, Look}
use Rattle.sg_machine.specs.declared.event.Admission.{Admission}
use Rattle.sg_machine.specs.declared.event.Event.{Event}
use Rattle.sg_machine.specs.declared.setup.Setup.{Setup}
use Rattle.sg_machine.specs.declared.state.State.{State}
use Rattle.sg_machine.specs.Legal.{is_admissible, may_admit, is_legal, is_legal_act}
use Rattle.sg_machine.specs.Effects.{ends_of, after}
use Rattle.sg_machine.specs.Runs.{are_legal}
use Rattle.sg_machine.specs.Counts.{ends_by, ends_admitted}
use Rattle.sg_machine.specs.Safe.{Images}
use Rattle.sg_machine.proofs.RunLemmas.{both-true}
use Rattle.sg_laws.specs.Covered.{Offers, IsFile}
use Rattle.sg_laws.specs.Passes.{Stopped, IsStoppedRun}
use Rattle.sg_laws.proofs.HasLemmas.{has-nil, has-cons}
use Rattle.sg_laws.proofs.CoverLemmas.{start_of, file-at, place-by}
use Rattle.sg_machine.proofs.PositionLemmas.{lt-true}

-- the positions of files in these images are below 2 ^ 63
abbrev pub AreInRange : Setup → Images → Type 0
AreInRange setup images = (i position : ℕ) → IsFile setup i → slice_get images.positions i ≡ Some position → position < 2 ^ 63

records-low : (rs : List Admission) (x : ℕ) → list_all is_admissible rs ≡ true → Contains (ends_of rs) x → x < 2 ^ 63
records-low [] x h c = absurd (has-nil x c)
records-low (r ∷ rs) x h c =
    let p = both-true (is_admissible r) (list_all is_admissible rs) h in
    let q = both-true (nat_lt r.end (2 ^ 63)) (nat_le (length r.offers) 1024) p.0 in
    let Q : ℕ → Type 0 = λ n. n < 2 ^ 63 in
    elim (has-cons r.end (ends_of rs) x c) [
      | inl e ↦ subst Q e (lt-true r.end (2 ^ 63) q.0)
      | inr t ↦ records-low rs x p.1 t
    ]

records-low-if : (b : Bool) (rs : List Admission) (x : ℕ) → list_all is_admissible rs ≡ true → Contains (if b then ends_of rs else []) x → x < 2 ^ 63
records-low-if true rs x h c = records-low rs x h c
records-low-if false rs x h c = absurd (has-nil x c)

act-low : (s : State) (act : Act) (failed : List ℕ) (i x : ℕ) → is_legal_act s act failed ≡ true → Contains (ends_by i act) x → x < 2 ^ 63
act-low s (Admit j records vs) failed i x l c =
    let p = both-true (passes_at s.inlets j (may_admit s j records)) _ l in
    let there = passes_at-some s.inlets j (may_admit s j records) p.0 in
    let q = both-true _ (list_all is_admissible records) there.2 in
    records-low-if (j == i) records x q.1 c
act-low s (Settle d n) failed i x l c = absurd (has-nil x c)
act-low s (Refill d n) failed i x l c = absurd (has-nil x c)
act-low s (Store j w) failed i x l c = absurd (has-nil x c)
act-low s (Rewind j) failed i x l c = absurd (has-nil x c)
act-low s Look failed i x l c = absurd (has-nil x c)

ends-low : (s : State) (es : List Event) (i x : ℕ) → are_legal s es ≡ true → Contains (ends_admitted i es) x → x < 2 ^ 63
ends-low s [] i x l c = absurd (has-nil x c)
ends-low s (e ∷ es) i x l c =
    let q = both-true (is_legal s e) (are_legal (after s e) es) l in
    elim (Contains-append_cases (ends_by i e.act) (ends_admitted i es) x c) [
      | inl a ↦ act-low s e.act e.failed i x q.0 a
      | inr b ↦ ends-low (after s e) es i x q.1 b
    ]

-- what a stop leaves is in range, where what it found was
pub range-left : (setup : Setup) (offers : Offers) (before : Images) (run : Stopped) → IsStoppedRun setup offers before run → AreInRange setup before → AreInRange setup run.images
range-left setup offers before run h low i position file at =
    let Q : ℕ → Type 0 = λ n. n < 2 ^ 63 in
    place-by Q setup offers before run i position h file at (omega arith) (λ place was. low i place file was) (λ x c. ends-low (start_of setup run) (run.events ++ run.event ∷ []) i x h.legal c)

-- and so is where each file's reading begins
pub range-opened : (setup : Setup) (offers : Offers) (before : Images) (run : Stopped) → IsStoppedRun setup offers before run → AreInRange setup before → (i position : ℕ) → IsFile setup i → slice_get run.opening.places i ≡ Some position → position < 2 ^ 63
range-opened setup offers before run h low i position file at =
    let f = file-at setup offers before run i h file in
    let Q : ℕ → Type 0 = λ n. n < 2 ^ 63 in
    let same : f.place ≡ position = some-same f.place position (sym (h.begins.places i f.place file f.was) ∙ at) in
    subst Q same (low i f.place file f.was)
