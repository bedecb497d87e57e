-- A record is read in one way.
use Rattle.std.proofs.Common.{◌≡◌, ℕ, inl, inr, Bool, true, false, List, Option, Some, None, MatchOption, Result, IfOk, ℤ, refl, sym, ap, ◌∙◌, subst}
use Rattle.std.specs.declared.alloc.AllocError.{AllocError}
use Rattle.sg_time.specs.declared.stamp.Stamp.{Stamp}
use Rattle.sg_time.specs.Local.{local_time}
use Rattle.sg_msg.specs.Message.{Content}
use Rattle.sg_r3164.specs.declared.opts.ReadOpts.{ReadOpts}
use Rattle.sg_r3164.specs.Options.{received_at}
use Rattle.sg_msg.specs.Priority.{priority}
use Rattle.sg_r3164.specs.Read3164.{HasBsd, HasIso, HasStamp, FindsStamp, behind_pri, parsed, ReadsAs, Read3164}
use Rattle.sg_r3164.proofs.StampsOnce.{iso_once, bsd_once, bsd_not_iso}

-- a text has one stamp at its front
pub stamp_once : (text : List ℕ) (received a b : Stamp) (m n : ℕ) → HasStamp text received a m → HasStamp text received b n → (a ≡ b) × (m ≡ n)
stamp_once text received a b m n (inl (p, e)) (inl (q, f)) = bsd_once text (local_time received) received.offset a b m n p q
stamp_once text received a b m n (inr (p, e)) (inr (q, f)) = iso_once text a b m n p q
stamp_once text received a b m n (inl (p, e)) (inr (q, f)) = absurd (bsd_not_iso text (local_time received) received.offset a b m n p q)
stamp_once text received a b m n (inr (p, e)) (inl (q, f)) = absurd (bsd_not_iso text (local_time received) received.offset b a n m q p)

-- a text without a stamp of the first form has what it has of the second
pub finds_iso : (text : List ℕ) (received : Stamp) (found : Option (Stamp × ℕ)) → ((stamp : Stamp) (len : ℕ) → ¬ HasBsd text received stamp len) → MatchOption found ((stamp : Stamp) (len : ℕ) → ¬ HasIso text stamp len) (λ f. HasIso text f.0 f.1) → FindsStamp text received found
finds_iso text received None no_bsd no_iso = λ stamp len h. elim h [ inl bsd ↦ no_bsd stamp len bsd | inr iso ↦ no_iso stamp len iso ]
finds_iso text received (Some found) no_bsd iso = inr iso

found_once : (text : List ℕ) (received : Stamp) (a b : Option (Stamp × ℕ)) → FindsStamp text received a → FindsStamp text received b → a ≡ b
found_once text received None None p q = refl
found_once text received None (Some b) p q = absurd (p b.0 b.1 q)
found_once text received (Some a) None p q = absurd (q a.0 a.1 p)
found_once text received (Some a) (Some b) p q =
    let same = stamp_once text received a.0 b.0 a.1 b.1 p q in
    let pair : Stamp → ℕ → Option (Stamp × ℕ) = λ s n. Some (s, n) in
    ap (λ s. pair s a.1) same.0 ∙ ap (λ n. pair b.0 n) same.1

pub reading_once : (parse : Bool) (opts : ReadOpts) (received : Stamp) (peer item : List ℕ) (a b : Content) → ReadsAs parse opts received peer item a → ReadsAs parse opts received peer item b → a ≡ b
reading_once true opts received peer item a b (f, (p, e)) (g, (q, h)) =
    e ∙ (ap (parsed opts received peer item) (found_once (behind_pri (priority item) item) received f g p q) ∙ sym h)
reading_once false opts received peer item a b p q = p ∙ sym q

-- what is read with the source's choice, and with its received stamp
pub reads_as : (parse : Bool) (opts : ReadOpts) (at : ℤ) (received : Stamp) (peer item : List ℕ) (r : Result Content AllocError) → opts.parse ≡ parse → received ≡ received_at at opts → IfOk r (ReadsAs parse opts received peer item) → IfOk r (Read3164 item at peer opts)
reads_as parse opts at received peer item r e f h =
    subst (λ (choice : Bool). IfOk r (ReadsAs choice opts (received_at at opts) peer item)) (sym e)
    (subst (λ (stamp : Stamp). IfOk r (ReadsAs parse opts stamp peer item)) f h)
