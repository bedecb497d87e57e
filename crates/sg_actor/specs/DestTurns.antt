-- A turn of a destination.
use Rattle.std.specs.Prelude.{◌≡◌, ◌≤◌, ◌<◌, ◌⊎◌, ℕ, ◌+◌, ◌||◌, ◌&&◌, not, nat_lt, is_ok, is_some, zero, suc, Bool, true, false, Option, Some, None, List, [], ◌∷◌, ◌++◌, length, Result, Ok, Err}
use Rattle.sg_device.specs.Faults.{Rose}
use Rattle.sg_device.specs.Outlet.{OutletState}
use Rattle.sg_msg.specs.Message.{Content}
use Rattle.sg_template.specs.declared.env.Env.{Env}
use Rattle.sg_outfmt.specs.declared.shape.Shape.{Shape}
use Rattle.sg_counter.specs.Exchanges.{Exchange, Makes, OfDest}
use Rattle.sg_counter.specs.declared.calls.CoreCall.{CoreCall}
use Rattle.sg_counter.specs.declared.calls.CoreCall.TheVariants.{Front, Settle, Refill}
use Rattle.sg_counter.specs.declared.calls.CoreReply.{CoreReply}
use Rattle.sg_counter.specs.declared.calls.CoreReply.TheVariants.{Front as FrontReply, Settled as SettledReply, Refilled as RefilledReply}
use Rattle.sg_counter.specs.declared.answers.CoreFront.TheVariants.{Entries, Empty, Broken as FrontBroken}
use Rattle.sg_counter.specs.declared.answers.Settled.TheVariants.{Done, DiskFailed}
use Rattle.sg_counter.specs.declared.answers.Refill.TheVariants.{Broken as RefillBroken}
use Rattle.sg_actor.specs.Bringing.{AllBy}
use Rattle.sg_actor.specs.Rendering.{frames_by, most_entries, sent_of}
use Rattle.sg_actor.specs.Outages.{HasFailures, TakesFrames, Waits, is_idle, broken}
use Rattle.sg_actor.specs.declared.outage.Outage.{Outage}
use Rattle.sg_actor.specs.declared.rendering.DestSpec.{DestSpec}
use Rattle.sg_actor.specs.declared.turned.GivenUp.{GivenUp}
use Rattle.sg_actor.specs.declared.turned.GivenUp.TheVariants.{Outlet, Store}
use Rattle.sg_actor.specs.declared.turned.Turned.{Turned}

-- the messages of the entries that were shown
abbrev pub shown_by : CoreReply → List Content
shown_by (FrontReply (Ok (Entries place messages))) = messages
shown_by reply = []

abbrev pub shown_in : List Exchange → List Content
shown_in [] = []
shown_in (e ∷ es) = shown_by e.reply ++ shown_in es

abbrev pub has_shown : List Exchange → Bool
has_shown made = nat_lt 0 (length (shown_in made))

-- the store of the destination's disk-buffer has failed
abbrev pub is_breakage : CoreReply → Bool
is_breakage (FrontReply (Ok FrontBroken)) = true
is_breakage (SettledReply DiskFailed) = true
is_breakage (RefilledReply RefillBroken) = true
is_breakage reply = false

abbrev pub has_broken : List Exchange → Bool
has_broken [] = false
has_broken (e ∷ es) = is_breakage e.reply || has_broken es

-- the entries were the first ones, and are settled on a store that works
abbrev pub is_done : CoreReply → Bool
is_done (SettledReply Done) = true
is_done reply = false

-- one refill, or none
abbrev pub Refills : ℕ → Bool → List Exchange → Type 0
Refills d true [] = ⊥
Refills d true (r ∷ []) = r.call ≡ Refill d
Refills d true (r ∷ q ∷ rs) = ⊥
Refills d false [] = Unit {0}
Refills d false (r ∷ rs) = ⊥

-- as many of the first entries are settled as were taken, where there were any, with this count of all frames that the outlet had taken by
-- then; and then a refill, where all went well
abbrev pub SettlesFirst : (d place taken count : ℕ) → Bool → List Exchange → Type 0
SettlesFirst d place zero count well made = Refills d well made
SettlesFirst d place (suc n) count well [] = ⊥
SettlesFirst d place (suc n) count well (s ∷ made) = (s.call ≡ Settle d place (suc n) count)
    × Refills d (well && is_done s.reply) made

abbrev pub FollowsFront : (d taken count : ℕ) → Bool → CoreReply → List Exchange → Type 0
FollowsFront d taken count well (FrontReply (Ok (Entries place []))) made =
    (made ≡ []) × (taken ≡ 0)
FollowsFront d taken count well (FrontReply (Ok (Entries place (m ∷ ms)))) made =
    SettlesFirst d place
    taken count well made
FollowsFront d taken count well reply made = (made ≡ []) × (taken ≡ 0)

-- so many of the first entries are asked for
abbrev pub AsksFront : ℕ → CoreCall → Type 0
AsksFront d call = (most : ℕ) × (call ≡ Front d most) × (most ≤ most_entries)

-- the first entries are asked for, and what was taken of them is settled; or no call is made
abbrev pub DeliversFront : (d taken count : ℕ) → Bool → List Exchange → Type 0
DeliversFront d taken count well [] = taken ≡ 0
DeliversFront d taken count well (f ∷ made) = AsksFront d f.call
    × FollowsFront d taken count well f.reply made

-- Why a destination is given up: its outlet failed three times in a row, or the store of its disk-buffer failed.
abbrev pub HasGivenUpCause : Bool → Bool → OutletState → List Exchange → Option GivenUp → Type 0
HasGivenUpCause gives_up refused drain made None = (has_broken made ≡ false)
    × (gives_up ≡ true → refused ≡ true → drain.failing < 3)
HasGivenUpCause gives_up refused drain made (Some Outlet) = (gives_up ≡ true) × (refused ≡ true)
    × (3 ≤ drain.failing)
HasGivenUpCause gives_up refused drain made (Some Store) = has_broken made ≡ true

-- no entry is left
abbrev pub IsEmptyFront : CoreReply → Type 0
IsEmptyFront (FrontReply (Ok (Entries place messages))) = messages ≡ []
IsEmptyFront (FrontReply (Ok Empty)) = Unit {0}
IsEmptyFront reply = ⊥

abbrev pub IsShownEmpty : List Exchange → Type 0
IsShownEmpty [] = ⊥
IsShownEmpty (f ∷ made) = IsEmptyFront f.reply

-- The destination sent, or reopened its outlet, unless it was too early and no frame was taken; and in an empty turn no entry was left, or it is given up.
pub record TellsSent (old new : Outage) (made : List Exchange) (taken : ℕ)
    (drain drain' : OutletState) (turned : Turned) : Type 0 where
  pub did : turned.did ≡ ((has_shown made || old.reopens) && not turned.idle)
  pub idle : turned.idle ≡ is_idle (nat_lt drain.laters drain'.laters) taken
  pub empty : turned.did ≡ false → turned.idle ≡ false
      → (is_some new.given_up ≡ true) ⊎ IsShownEmpty made

abbrev pub TellsDest : {E : Type 0} → Outage → Outage → List Exchange → ℕ → OutletState
    → OutletState
    → Result Turned E → Type 0
TellsDest old new made taken drain drain' (Ok turned) =
    TellsSent old new made taken drain drain' turned
TellsDest old new made taken drain drain' (Err e) = Unit {0}

-- A turn of a destination that isn't given up. So many frames of the first entries were taken, and just so many are settled, with the
-- outlet's count at the end of the turn; the last send or reopening was refused with a fault, or not.
pub record SendsWith {S E : Type 0} (spec : DestSpec) (step : S → CoreCall → CoreReply → S → Type 0)
    (counter counter' : S) (old new : Outage) (drain drain' : OutletState)
    (result : Result Turned E) (made : List Exchange) (taken : ℕ) (refused : Bool) : Type 0 where
  pub makes : Makes step counter made counter'
  pub own : AllBy (OfDest spec.dest) made
  pub few : length made ≤ 4
  pub delivers : DeliversFront spec.dest taken drain'.count (is_ok result) made
  pub takes : TakesFrames taken (frames_by spec (shown_in made)) drain drain'
  pub within : taken ≤ length (sent_of spec (shown_in made))
  pub whole : is_ok result ≡ true → refused ≡ false → drain'.laters ≡ drain.laters
      → taken ≡ length (sent_of spec (shown_in made))
  pub laters : (drain.laters ≤ drain'.laters) × (drain'.laters ≤ drain.laters + 1)
  pub early : drain.laters < drain'.laters → has_shown made ≡ false → old.reopens ≡ true
  pub rose : refused ≡ true → Rose drain.faults drain'.faults
  pub failures : HasFailures new drain'
  pub reopens : new.reopens
      ≡ (refused || (nat_lt drain.laters drain'.laters && not (has_shown made)))
  pub cause : HasGivenUpCause spec.gives_up refused drain' made new.given_up
  pub tells : TellsDest old new made taken drain drain' result

-- a turn of one that is given up
pub record StaysGivenUp {S E : Type 0} (counter counter' : S) (old new : Outage)
    (drain drain' : OutletState) (result : Result Turned E) : Type 0 where
  pub counter_stays : counter' ≡ counter
  pub outage_stays : new ≡ old
  pub drain_stays : drain' ≡ drain
  pub nothing : result ≡ Ok (record { did = false; idle = false })

abbrev pub SendsByCause : {S E : Type 0} → Option GivenUp → DestSpec
    → (S → CoreCall → CoreReply → S → Type 0) → S → S → Outage → Outage → OutletState → OutletState
    → Result Turned E → Type 0
SendsByCause None spec step counter counter' old new drain drain' result =
    (made : List Exchange) × ((taken : ℕ) × ((refused : Bool)
    × SendsWith spec step counter counter' old new drain drain' result made taken refused))
SendsByCause (Some cause) spec step counter counter' old new drain drain' result =
    StaysGivenUp counter counter'
    old new drain drain' result

abbrev pub SendsTurn : {S E : Type 0} → DestSpec → (S → CoreCall → CoreReply → S → Type 0) → S → S
    → Outage → Outage → OutletState → OutletState → Result Turned E → Type 0
SendsTurn spec step counter counter' old new drain drain' result =
    SendsByCause old.given_up spec step
    counter counter' old new drain drain' result

-- What the calls leave of what is known of failures.
abbrev pub after_reply : Bool → Outage → Outage
after_reply true outage = broken outage
after_reply false outage = outage

abbrev pub after_made : List Exchange → Outage → Outage
after_made [] outage = outage
after_made (e ∷ es) outage = after_made es (after_reply (is_breakage e.reply) outage)

-- what a delivery told
abbrev pub idle_in : {E : Type 0} → Result Bool E → Bool
idle_in (Ok idle) = idle
idle_in (Err e) = false

-- What a send and the calls after it leave. It was too early for the send and no frame was taken, or not.
pub record HasDelivered {S : Type 0} (spec : DestSpec)
    (step : S → CoreCall → CoreReply → S → Type 0) (counter counter' : S) (place : ℕ)
    (messages : List Content) (new : Outage) (drain drain' : OutletState)
    (well idle : Bool) : Type 0 where
  pub made : List Exchange
  pub taken : ℕ
  pub refused : Bool
  pub later : Bool
  pub makes : Makes step counter made counter'
  pub own : AllBy (OfDest spec.dest) made
  pub few : length made ≤ 2
  pub unshown : shown_in made ≡ []
  pub settles : SettlesFirst spec.dest place taken drain'.count well made
  pub takes : TakesFrames taken (sent_of spec messages) drain drain'
  pub within : taken ≤ length (sent_of spec messages)
  pub whole : well ≡ true → refused ≡ false → later ≡ false → taken ≡ length (sent_of spec messages)
  pub idles : well ≡ true → idle ≡ is_idle later taken
  pub waits : Waits later drain drain'
  pub rose : refused ≡ true → Rose drain.faults drain'.faults
  pub failures : HasFailures new drain'
  pub reopens : new.reopens ≡ refused
  pub cause : HasGivenUpCause spec.gives_up refused drain' made new.given_up

-- a destination whose outlet never failed
pub record IsNewDest (dest : ℕ) (gives_up : Bool) (shape : Shape) (env : Env) (spec : DestSpec)
    (outage : Outage) (drain : OutletState) : Type 0 where
  pub spec_is : spec ≡ record { dest = dest; shape = shape; env = env; gives_up = gives_up }
  pub works : outage.reopens ≡ false
  pub kept : outage.given_up ≡ None
  pub failures : HasFailures outage drain
