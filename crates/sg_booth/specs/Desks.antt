-- Booths and desks as their callers see them.
use Rattle.std.specs.Prelude.{◌≡◌, ℕ, ◌+◌, ◌-◌, ◌≤◌, List, [], ◌∷◌, ◌++◌, length, Option, Some}
use Rattle.atomic_table.specs.Seated.{TableId}
use Rattle.sg_booth.specs.Lists.{times, joined_up, CountsOnce, CountsSome, Rises, AllRise, StartsWith, entries_at}
use Rattle.sg_booth.specs.Rule.{MakesOfficeCalls}
use Rattle.sg_booth.specs.declared.office.OfficeExchange.{OfficeExchange}

-- which booth it is, what it was made with, and for how many turns
pub record BoothState (V : Type 0) : Type 0 where
  pub id : TableId
  pub made : V
  pub turns : ℕ

-- The booth and what that was made with; the turns that are left; the history that was seen; the places in it of the desk's own calls,
-- and those of each desk that was joined into it
pub record DeskState (V C R : Type 0) : Type 0 where
  pub booth : TableId
  pub made : Option V
  pub left : ℕ
  pub seen : List (OfficeExchange C R)
  pub own : List ℕ
  pub joined : List (List ℕ)

-- the desk was made from this booth
abbrev pub IsDeskOf : {V C R : Type 0} → BoothState V → DeskState V C R → Type 0
IsDeskOf booth desk = (desk.booth ≡ booth.id) × (desk.made ≡ Some booth.made)

-- the first desk of a booth
abbrev pub first_desk : {V C R : Type 0} → BoothState V → DeskState V C R
first_desk booth = record {
  booth = booth.id;
  made = Some booth.made;
  left = booth.turns;
  seen = [];
  own = [];
  joined = [];
}

-- the office of one thread can have made these calls, with these replies
abbrev pub IsLegal : {V C R : Type 0} → (V → C → R → V → Type 0) → V → List (OfficeExchange C R)
    → Type 0
IsLegal {V} step made history = (last : V) × MakesOfficeCalls step made history last

-- all places of a desk's calls
abbrev pub places : {V C R : Type 0} → DeskState V C R → List ℕ
places desk = desk.own ++ joined_up desk.joined

-- each list of places rises, and they are places of what was seen
abbrev pub ArePlacesOrdered : {V C R : Type 0} → DeskState V C R → Type 0
ArePlacesOrdered desk = Rises 0 desk.own (length desk.seen) × AllRise desk.joined (length desk.seen)

module _ {V C R : Type 0} where
  abbrev pub turned : DeskState V C R → List (OfficeExchange C R) → OfficeExchange C R
      → DeskState V C R
  turned desk between e = record desk {
    left = desk.left - 1;
    seen = (desk.seen ++ between) ++ e ∷ [];
    own = desk.own ++ length (desk.seen ++ between) ∷ [];
  }

  -- A turn was taken. What is seen begins with all that was seen and ends with this call and reply, and the call is one more of the desk's own.
  -- The history up to the call gives an office, which makes this reply
  pub record HasTurned (step : V → C → R → V → Type 0) (made : V) (old : DeskState V C R) (call : C)
      (reply : R) (new : DeskState V C R) : Type 0 where
    pub between : List (OfficeExchange C R)
    pub desk : new ≡ turned old between (record { call = call; reply = reply })
    pub calls : entries_at new.seen new.own
        ≡ entries_at old.seen old.own ++ record { call = call; reply = reply } ∷ []
    pub before : V
    pub after : V
    pub gives : MakesOfficeCalls step made (old.seen ++ between) before
    pub serves : step before call reply after

  -- a desk that has seen as much, with these turns
  abbrev pub fresh_desk : DeskState V C R → ℕ → DeskState V C R
  fresh_desk desk turns = record desk { left = turns; own = []; joined = [] }

  -- a desk with these calls and no turns
  abbrev pub receipt_of : DeskState V C R → DeskState V C R
  receipt_of desk = record desk { left = 0 }

  abbrev pub without_calls : DeskState V C R → DeskState V C R
  without_calls desk = record desk { own = []; joined = [] }

  -- two desks are one, which has seen what both had
  pub record HasJoined (old other new : DeskState V C R) : Type 0 where
    pub more : List (OfficeExchange C R)
    pub desk : new ≡ record old {
      left = old.left + other.left;
      seen = old.seen ++ more;
      joined = old.joined ++ other.own ∷ other.joined;
    }
    pub told : StartsWith new.seen other.seen

  -- The history gives this office, and begins with what the desk has seen. Each of the desk's calls stands in it once, at its place; all
  -- others are calls of desks that weren't joined, whose turns are lost: with the turns that the desk has left the history is no longer
  -- than the booth was made for. Where the desk's calls and turns are all of those, it has the desk's calls and no others
  pub record HasClosed (step : V → C → R → V → Type 0) (booth : BoothState V)
      (desk : DeskState V C R) (office : V) : Type 0 where
    pub history : List (OfficeExchange C R)
    pub gives : MakesOfficeCalls step booth.made history office
    pub seen : StartsWith history desk.seen
    pub few : length history + desk.left ≤ booth.turns
    pub mine : CountsSome (length history) (λ x. times x (places desk))
    pub calls : entries_at history (places desk) ≡ entries_at desk.seen (places desk)
    pub all : length (places desk) + desk.left ≡ booth.turns
        → CountsOnce 0 (length history) (λ x. times x (places desk))

  -- The calls of another desk came to this one by a join, and it has seen what that had
  pub record HasTakenSlot (desk other : DeskState V C R) : Type 0 where
    pub seen : StartsWith desk.seen other.seen
    pub calls : (x : ℕ) → times x (places other) ≤ times x (joined_up desk.joined)

  -- The history begins with all that a desk had seen. Each call that it had made stands there at its place, once, and none of these is a
  -- place of the closing desk's own
  pub record HasCalls (history : List (OfficeExchange C R))
      (closing desk : DeskState V C R) : Type 0 where
    pub seen : StartsWith history desk.seen
    pub calls : entries_at history (places desk) ≡ entries_at desk.seen (places desk)
    pub apart : (x : ℕ) → times x (places desk) + times x closing.own ≤ 1

-- A desk that a receipt is joined into takes that one's calls, keeps them at each turn and each join, and hands them on where it is joined
-- itself. Where it closes the booth, the history has these calls, whatever became of the desk that the receipt is of
pub record ReceiptsStand {V C R : Type 0} (step : V → C → R → V → Type 0) : Type 0 where
  pub joins : (desk old new : DeskState V C R) → HasJoined old (receipt_of desk) new
      → HasTakenSlot new desk
  pub turns : (desk old new : DeskState V C R) (made : V) (call : C) (reply : R)
      → HasTakenSlot old desk
      → HasTurned step made old call reply new → HasTakenSlot new desk
  pub keeps : (desk old other new : DeskState V C R) → HasTakenSlot old desk
      → HasJoined old other new
      → HasTakenSlot new desk
  pub hands : (desk old other new : DeskState V C R) → HasTakenSlot other desk
      → HasJoined old other new
      → HasTakenSlot new desk
  pub closes : (desk closing : DeskState V C R) (booth : BoothState V) (office : V)
      → ArePlacesOrdered desk
      → HasTakenSlot closing desk → (closed : HasClosed step booth closing office)
      → HasCalls closed.history closing desk
