-- Which records are acknowledged, how far, and how many are outstanding, read off the events.
use Rattle.std.specs.Prelude.{◌≡◌, ℕ, ◌+◌, ◌==◌, Bool, true, false, ◌&&◌, ◌||◌, not, if◌then◌else◌, Option, Some, List, [], ◌∷◌, ◌++◌, length, map, drop}
use Rattle.std.specs.Option.{option_map_or}
use Rattle.sg_machine.specs.declared.event.Verdict.{Verdict}
use Rattle.sg_machine.specs.declared.event.Act.{Act}
use Rattle.sg_machine.specs.declared.event.Act.TheVariants.{Admit}
use Rattle.sg_machine.specs.declared.event.Event.{Event}
use Rattle.sg_machine.specs.declared.state.DestEntry.{DestEntry}
use Rattle.sg_machine.specs.declared.state.InletRecords.{InletRecords}
use Rattle.sg_machine.specs.declared.state.Dest.{Dest}
use Rattle.sg_machine.specs.declared.state.State.{State}
use Rattle.sg_machine.specs.Verdicts.{Claim, claims_of}
use Rattle.sg_machine.specs.Marks.{mark_of, outstanding_of}
use Rattle.sg_machine.specs.Effects.{next_of}
use Rattle.sg_machine.specs.Runs.{after_all}
use Rattle.sg_machine.specs.Counts.{is_kept_at, is_spooled, settled_count, spooled_marks, ends_by, ends_admitted, opening_from}

-- what was kept of an offer: its record, by inlet and number, and whether with flow-control
pub record Claimed : Type 0 where
  pub inlet : ℕ
  pub number : Option ℕ
  pub flow : Bool

abbrev pub claimed_by : DestEntry → Claimed
claimed_by e = record { inlet = e.inlet; number = e.number; flow = e.flow }

-- of the offers of i to d without a Dropped verdict, in order, where the next record of i has this number
abbrev pub claimed_offers : ℕ → ℕ → ℕ → List Claim → List Verdict → List Claimed
claimed_offers d i next [] vs = []
claimed_offers d i next (c ∷ cs) [] = []
claimed_offers d i next (c ∷ cs) (v ∷ vs) =
    if is_kept_at d c.offer v
    then record { inlet = i; number = Some (next + c.place); flow = c.offer.flow }
    ∷ claimed_offers d i next cs vs
    else claimed_offers d i next cs vs

abbrev pub claims_at : (ℕ → ℕ) → ℕ → Act → List Claimed
claims_at next d (Admit i records verdicts) = claimed_offers d i (next i) (claims_of records)
    verdicts
claims_at next d _ = []

-- of all events, where the next record of each inlet has this number at first
abbrev pub claimed_from : (ℕ → ℕ) → ℕ → List Event → List Claimed
claimed_from next d [] = []
claimed_from next d (e ∷ es) = claims_at next d e.act
    ++ claimed_from (λ i. next i + length (ends_by i e.act)) d es

-- it is of this record, with flow-control, and not spooled
abbrev pub is_owing : ℕ → ℕ → Claimed → Bool → Bool
is_owing i n c spooled = c.inlet == i && option_map_or (λ m. m == n) c.number false && c.flow
    && not spooled

-- one of these is, each with its mark
abbrev pub any_owing : ℕ → ℕ → List Claimed → List Bool → Bool
any_owing i n [] ms = false
any_owing i n (c ∷ cs) [] = false
any_owing i n (c ∷ cs) (m ∷ ms) = is_owing i n c m || any_owing i n cs ms

-- none of what d, which was so at first, has kept behind its settled ones
abbrev pub owes_none : ℕ → ℕ → State → List Event → ℕ → Dest → Bool
owes_none i n start events d dest =
    let gone = length dest.settled + settled_count d events in
    not (any_owing i n
    (drop gone
    (map claimed_by (dest.settled ++ dest.left) ++ claimed_from (next_of start) d events))
    (drop gone (spooled_marks d (length dest.settled) (map is_spooled (dest.settled ++ dest.left))
    events)))

-- at all these destinations, which have the numbers from d on
abbrev pub all_acked : ℕ → ℕ → State → List Event → ℕ → List Dest → Bool
all_acked i n start events d [] = true
all_acked i n start events d (dest ∷ dests) = owes_none i n start events d dest
    && all_acked i n start events (d + 1) dests

-- record n of i is acknowledged: each of its offers with flow-control is settled or spooled
abbrev pub is_acked_by : State → List Event → ℕ → ℕ → Bool
is_acked_by start events i n = all_acked i n start events 0 start.dests

-- of the records with these ends, which have the numbers from `number` on, those behind the longest
-- prefix of acknowledged ones
abbrev pub outstanding_by : (ℕ → Bool) → ℕ → List ℕ → ℕ
outstanding_by acked number [] = 0
outstanding_by acked number (end ∷ ends) =
    if acked number then outstanding_by acked (number + 1) ends else length (end ∷ ends)

-- the end of the last record of that prefix, `from` where there is none
abbrev pub marked_by : (ℕ → Bool) → ℕ → ℕ → List ℕ → ℕ
marked_by acked number from [] = from
marked_by acked number from (end ∷ ends) =
    if acked number then marked_by acked (number + 1) end ends else from

-- an inlet before and after events, which read this of it
pub record CountsMark (start : State) (old new : InletRecords) (i : ℕ)
    (events : List Event) : Type 0 where
  pub mark : mark_of (after_all start events).dests i new ≡ marked_by (is_acked_by start events i) 0
      (opening_from i old.opening events) (old.ends ++ ends_admitted i events)
  pub outstanding : outstanding_of (after_all start events).dests i new
      ≡ outstanding_by (is_acked_by start events i) 0 (old.ends ++ ends_admitted i events)
