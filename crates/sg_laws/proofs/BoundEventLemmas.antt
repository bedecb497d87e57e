-- The entries that destinations kept in a run, and what stands where its rounds begin.
use Rattle.std.proofs.Common.{◌≡◌, ℕ, ◌+◌, ◌≤◌, List, [], ◌∷◌, length, false, ◌&&◌, refl, ap, ◌∙◌, arith, suc, zero, map}
use Rattle.std.specs.Prelude.{◌==◌, slice_get}
use Rattle.std.specs.Option.{option_map_or}
use Rattle.sg_list.specs.Lists.{change}
use Rattle.sg_machine.specs.declared.event.Act.{Act}
use Rattle.sg_machine.specs.declared.event.Act.TheVariants.{Admit, Settle, Refill, Store, Rewind, Look}
use Rattle.sg_machine.specs.declared.event.Event.{Event}
use Rattle.sg_machine.specs.declared.setup.DestSetup.{DestSetup}
use Rattle.sg_machine.specs.declared.setup.SourceSetup.{SourceSetup}
use Rattle.sg_machine.specs.declared.state.InletRecords.{InletRecords}
use Rattle.sg_machine.specs.declared.state.State.{State}
use Rattle.sg_machine.specs.Effects.{next_of, rewound, after, after_act}
use Rattle.sg_machine.specs.Runs.{BufferedEntry, recovered, opened_inlets, opened_dests, after_all}
use Rattle.sg_machine.specs.Verdicts.{claims_of}
use Rattle.sg_actor.specs.Reading.{one_if}
use Rattle.sg_laws.specs.Counts.{offers_of, left_in}
use Rattle.sg_standing.proofs.Frozen.{length-dests}
use Rattle.sg_laws.proofs.OwedLemmas.{owes, owed, owed_in, kept_in, kept-settle, kept-refill, kept-claims, claims-length}
use Rattle.sg_machine.proofs.WindowLaws.{and-not-true}

-- Entries that were kept.

abbrev pub act_offers : Act → ℕ
act_offers (Admit i records vs) = offers_of records
act_offers (Settle d n) = 0
act_offers (Refill d n) = 0
act_offers (Store i w) = 0
act_offers (Rewind i) = 0
act_offers Look = 0

abbrev pub acts_offers : List Act → ℕ
acts_offers [] = 0
acts_offers (a ∷ as') = act_offers a + acts_offers as'

kept-act : (s : State) (act : Act) (failed : List ℕ) → kept_in (after_act s act failed).dests ≤ kept_in s.dests + act_offers act
kept-act s (Admit i records vs) failed = let h = kept-claims i (next_of s i) s.dests (claims_of records) vs in let many = claims-length records in omega (arith, h, many)
kept-act s (Settle d n) failed = let h = kept-settle s.dests d n in omega (arith, h)
kept-act s (Refill d n) failed = let h = kept-refill s.dests d n in omega (arith, h)
kept-act s (Store i w) failed = omega arith
kept-act s (Rewind i) failed = omega arith
kept-act s Look failed = omega arith

-- behind events there are those of before, and their offers at most
pub kept-all : (es : List Event) (s : State) → kept_in (after_all s es).dests ≤ kept_in s.dests + acts_offers (map (λ (e : Event). e.act) es)
kept-all [] s = omega arith
kept-all (e ∷ es) s = let one = kept-act s e.act e.failed in let rest = kept-all es (after s e) in omega (arith, one, rest)

pub dests-all : (es : List Event) (s : State) → length (after_all s es).dests ≡ length s.dests
dests-all [] s = refl
dests-all (e ∷ es) s = dests-all es (after s e) ∙ length-dests s e.act e.failed

-- The opening.

recovered-owe : (i : ℕ) (es : List BufferedEntry) → owed i (map recovered es) ≡ 0
recovered-owe i [] = refl
recovered-owe i (e ∷ es) =
    let none : owes i (recovered e) ≡ false = and-not-true (e.inlet == i) in
    let rest = recovered-owe i es in
    let zero-is : one_if (owes i (recovered e)) ≡ 0 = ap one_if none in
    omega (arith, zero-is, rest)

pub opened-owe : (i : ℕ) (setups : List DestSetup) (entries : List (List BufferedEntry)) → owed_in i (opened_dests setups entries) ≡ 0
opened-owe i [] entries = refl
opened-owe i (s ∷ ss) [] = let more = opened-owe i ss [] in omega (arith, more)
opened-owe i (s ∷ ss) (es ∷ rest) = let one = recovered-owe i es in let more = opened-owe i ss rest in omega (arith, one, more)

pub opened-kept : (setups : List DestSetup) (entries : List (List BufferedEntry)) → kept_in (opened_dests setups entries) ≡ left_in (opened_dests setups entries)
opened-kept [] entries = refl
opened-kept (s ∷ ss) [] = let h = opened-kept ss [] in omega (arith, h)
opened-kept (s ∷ ss) (es ∷ rest) = let h = opened-kept ss rest in omega (arith, h)

abbrev count_at : List InletRecords → ℕ → ℕ
count_at inlets i = option_map_or (λ (inlet : InletRecords). length inlet.ends) (slice_get inlets i) 0

pub opened-none : (ss : List SourceSetup) (ps : List ℕ) (i : ℕ) → count_at (opened_inlets ss ps) i ≡ 0
opened-none [] ps i = refl
opened-none (s ∷ ss) [] zero = refl
opened-none (s ∷ ss) (p ∷ ps) zero = refl
opened-none (s ∷ ss) [] (suc i) = opened-none ss [] i
opened-none (s ∷ ss) (p ∷ ps) (suc i) = opened-none ss ps i

rewound-count : (inlets : List InletRecords) (j i : ℕ) → count_at (change inlets j rewound) i ≡ count_at inlets i
rewound-count [] j i = refl
rewound-count (x ∷ inlets) zero zero = refl
rewound-count (x ∷ inlets) zero (suc i) = refl
rewound-count (x ∷ inlets) (suc j) zero = refl
rewound-count (x ∷ inlets) (suc j) (suc i) = rewound-count inlets j i

pub rewind-next : (s : State) (j i : ℕ) (failed : List ℕ) → next_of (after_act s (Rewind j) failed) i ≡ next_of s i
rewind-next s j i failed = rewound-count s.inlets j i
