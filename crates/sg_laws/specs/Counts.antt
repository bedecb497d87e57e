-- What the calls of a core and its devices count.
use Rattle.std.specs.Prelude.{ℕ, ◌+◌, ◌-◌, ◌^◌, not, nat_lt, if◌then◌else◌, Option, Some, List, [], ◌∷◌, length}
use Rattle.sg_device.specs.Inlet.{InletState}
use Rattle.sg_device.specs.Outlet.{OutletState}
use Rattle.sg_machine.specs.declared.event.Admission.{Admission}
use Rattle.sg_machine.specs.declared.state.Dest.{Dest}
use Rattle.sg_counter.specs.Exchanges.{Exchange}
use Rattle.sg_counter.specs.declared.answers.Stored.{Stored}
use Rattle.sg_counter.specs.declared.answers.Stored.TheVariants.{Wrote, Unchanged, Broken}
use Rattle.sg_counter.specs.declared.calls.CoreReply.{CoreReply}
use Rattle.sg_counter.specs.declared.calls.CoreReply.TheVariants.{Credit as CreditReply}
use Rattle.sg_actor.specs.Bringing.{stores_in}
use Rattle.sg_actor.specs.Positions.{is_same_credit}
use Rattle.sg_actor.specs.Reading.{one_if}

-- Calls.

-- the credit that was told last
abbrev pub credit_after : Option ℕ → CoreReply → Option ℕ
credit_after before (CreditReply credit) = Some credit
credit_after before reply = before

abbrev pub changed_by : Option ℕ → CoreReply → ℕ
changed_by before (CreditReply credit) = one_if (not (is_same_credit before credit))
changed_by before reply = 0

-- how often another credit was told than the time before, the first time among them
abbrev pub changes : Option ℕ → List Exchange → ℕ
changes before [] = 0
changes before (e ∷ es) = changed_by before e.reply + changes (credit_after before e.reply) es

-- how often a position was written
abbrev pub wrote : Stored → ℕ
wrote (Wrote w) = 1
wrote Unchanged = 0
wrote Broken = 0

abbrev pub writes : List Stored → ℕ
writes [] = 0
writes (s ∷ ss) = wrote s + writes ss

abbrev pub writes_in : List Exchange → ℕ
writes_in made = writes (stores_in made)

-- the offers of these records
abbrev pub offers_of : List Admission → ℕ
offers_of [] = 0
offers_of (a ∷ as') = length a.offers + offers_of as'

-- the entries that are left
abbrev pub left_in : List Dest → ℕ
left_in [] = 0
left_in (dest ∷ dests) = length dest.left + left_in dests

-- Devices, as they were closed, beside what they were as they were opened.

-- the bytes and the parts that inlets gave, and their idle answers
abbrev pub bytes_in : List InletState → ℕ
bytes_in [] = 0
bytes_in (feed ∷ feeds) = feed.bytes + bytes_in feeds

abbrev pub parts_in : List InletState → ℕ
parts_in [] = 0
parts_in (feed ∷ feeds) = feed.parts + parts_in feeds

abbrev pub idles_in : List InletState → ℕ
idles_in [] = 0
idles_in (feed ∷ feeds) = feed.idles + idles_in feeds

-- By how much a count of faults rose. One that stands at its end may have risen from any number on, and counts whole.
abbrev pub rise : (before now : ℕ) → ℕ
rise before now = if nat_lt now (2 ^ 64 - 1) then now - before else now

-- by how much their counts of faults rose
abbrev pub inlet_faults : List InletState → List InletState → ℕ
inlet_faults [] closed = 0
inlet_faults (old ∷ olds) [] = 0
inlet_faults (old ∷ olds) (new ∷ news) = rise old.faults new.faults + inlet_faults olds news

-- the same of outlets
abbrev pub outlet_faults : List OutletState → List OutletState → ℕ
outlet_faults [] closed = 0
outlet_faults (old ∷ olds) [] = 0
outlet_faults (old ∷ olds) (new ∷ news) = rise old.faults new.faults + outlet_faults olds news

-- the answers that it was too early to reopen one, or to send to it
abbrev pub laters_in : List OutletState → List OutletState → ℕ
laters_in [] closed = 0
laters_in (old ∷ olds) [] = 0
laters_in (old ∷ olds) (new ∷ news) = (new.laters - old.laters) + laters_in olds news
