-- Calls of a core with their replies, one after another, and whose they are.
use Rattle.std.specs.Prelude.{◌≡◌, ℕ, ◌==◌, Bool, false, List, [], ◌∷◌, filter}
use Rattle.sg_counter.specs.declared.calls.CoreCall.{CoreCall}
use Rattle.sg_counter.specs.declared.calls.CoreCall.TheVariants.{Credit, Admit, Front, Settle, Refill, Store}
use Rattle.sg_counter.specs.declared.calls.CoreReply.{CoreReply}

-- a call with its reply
pub record Exchange : Type 0 where
  pub call : CoreCall
  pub reply : CoreReply

-- calls one after another, each a step
abbrev pub Makes : {S : Type 0} → (S → CoreCall → CoreReply → S → Type 0) → S → List Exchange → S
    → Type 0
Makes step old [] new = new ≡ old
Makes {S} step old (made ∷ rest) new = (between : S) × step old made.call made.reply between
    × Makes step between rest new

-- who makes a call: the feeder of a source, or the one that empties a destination
pub data Caller : Type 0 where
  OfSource : ℕ → Caller
  OfDest : ℕ → Caller

abbrev pub caller_of : CoreCall → Caller
caller_of (Credit i) = OfSource i
caller_of (Admit i records) = OfSource i
caller_of (Front d most) = OfDest d
caller_of (Settle d place n count) = OfDest d
caller_of (Refill d) = OfDest d
caller_of (Store i) = OfSource i

abbrev pub same_caller : Caller → Caller → Bool
same_caller (OfSource i) (OfSource j) = i == j
same_caller (OfDest d) (OfDest e) = d == e
same_caller _ _ = false

-- the calls of one caller, in order
abbrev pub calls_by : Caller → List Exchange → List Exchange
calls_by caller made = filter (λ exchange. same_caller caller (caller_of exchange.call)) made
