-- Statements, one after another.
use Rattle.std.proofs.Common.{◌≡◌, ◌∙◌, ℕ, zero, suc, ◌+◌, ◌-◌, ◌<◌, ◌≤◌, true, false, List, [], ◌∷◌, ◌++◌, length, Some, slice_get, Result, Ok, Err, refl, sym, ap, arith}
use Rattle.sg_list.proofs.ListLemmas.{slice_get-some}
use Rattle.sg_lex.specs.declared.token.Token.{Token}
use Rattle.sg_lex.specs.declared.fault.ConfigFault.{ConfigFault}
use Rattle.sg_lex.specs.declared.fault.ConfigKind.TheVariants.{Unexpected}
use Rattle.sg_parse_base.specs.declared.spot.Spot.{Spot}
use Rattle.sg_parse_base.specs.Input.{ParseOutcome, ◌>>=◌, behind, sees, fault_at}
use Rattle.sg_parse_base.proofs.Spots.{spots-length}
use Rattle.sg_parse_base.proofs.Turns.{one_more, no_more}
use Rattle.sg_parse_obj.specs.declared.whole.ParseRefusal.{ParseRefusal}
use Rattle.sg_parse_obj.specs.declared.whole.ParseRefusal.TheVariants.{Bad, NoMemory}
use Rattle.sg_parse_obj.specs.Objects.{spots_at}
use Rattle.sg_parse_text.specs.declared.statement.Statement.{Statement}
use Rattle.sg_parse_text.specs.Texts.{ends, ended_at, text_from, text_at}
use Rattle.sg_parse_text.specs.Answers.{IsUnexpected, RefusesParse, AnswersAll, IsRefused}
use Rattle.sg_parse_text.specs.Grammar.{IsConfigText}
use Rattle.sg_parse_text.proofs.Standing.{at-some, refuses-first, refuses-same}
use Rattle.sg_parse_text.proofs.TextLaws.{text-sound, text-none}

abbrev pub WholeText : List Token → ParseOutcome (List Statement)
WholeText tokens = text_from (length tokens) [] (spots_at tokens 0)

spots-count : (tokens : List Token) → length (spots_at tokens 0) ≡ length tokens
unfolding spots_at
spots-count tokens = spots-length 0 tokens

-- the text is read with as many turns as it has tokens
pub whole-is : (tokens : List Token) → text_at (spots_at tokens 0) ≡ WholeText tokens
unfolding text_at
whole-is tokens = ap (λ n. text_from n [] (spots_at tokens 0)) (spots-count tokens)

from-ends : (n : ℕ) (found : List Statement) (s : List Spot) → ends s ≡ true → text_from n found s ≡ Ok (found, [])
unfolding text_from
from-ends zero found s e = rw e refl
from-ends (suc n) found s e = rw e refl

from-none : (found : List Statement) (s : List Spot) → ends s ≡ false → text_from 0 found s ≡ Err (fault_at Unexpected s)
unfolding text_from
from-none found s e = rw e refl

from-semicolon : (n : ℕ) (found : List Statement) (s : List Spot) → ends s ≡ false → sees 59 s ≡ true → text_from (suc n) found s ≡ text_from n found (behind s)
unfolding text_from
from-semicolon n found s e seen = rw (e, seen) refl

from-statement : (n : ℕ) (found : List Statement) (s : List Spot) → ends s ≡ false → sees 59 s ≡ false → text_from (suc n) found s ≡ (ended_at s >>= λ x. text_from n (found ++ x.0 ∷ []) x.1)
unfolding text_from
from-statement n found s e missed = rw (e, missed) refl

pub read-ends : (tokens : List Token) (turn at : ℕ) (found : List Statement) → ends (spots_at tokens at) ≡ true → WholeText tokens ≡ text_from (length tokens - turn) found (spots_at tokens at) → text_at (spots_at tokens 0) ≡ Ok (found, [])
read-ends tokens turn at found e so = whole-is tokens ∙ so ∙ from-ends (length tokens - turn) found (spots_at tokens at) e

pub read-text : (tokens : List Token) (turn at : ℕ) (found : List Statement) → ends (spots_at tokens at) ≡ true → WholeText tokens ≡ text_from (length tokens - turn) found (spots_at tokens at) → IsConfigText (spots_at tokens 0) found
read-text tokens turn at found e so = text-sound (spots_at tokens 0) found (read-ends tokens turn at found e so)

pub read-semicolon : (tokens : List Token) (turn at : ℕ) (found : List Statement) → turn < length tokens → at < length tokens → ends (spots_at tokens at) ≡ false → sees 59 (spots_at tokens at) ≡ true → WholeText tokens ≡ text_from (length tokens - turn) found (spots_at tokens at) → WholeText tokens ≡ text_from (length tokens - (turn + 1)) found (spots_at tokens (at + 1))
read-semicolon tokens turn at found more below e seen so =
    let token = slice_get-some tokens at below in
    one_more (λ n. text_from n found (spots_at tokens at)) (length tokens) turn more so
    ∙ from-semicolon (length tokens - (turn + 1)) found (spots_at tokens at) e seen
    ∙ ap (λ s. text_from (length tokens - (turn + 1)) found (behind s)) (at-some tokens at token.0 token.1)

step-is : (tokens : List Token) (turn at : ℕ) (found : List Statement) → turn < length tokens → ends (spots_at tokens at) ≡ false → sees 59 (spots_at tokens at) ≡ false → WholeText tokens ≡ text_from (length tokens - turn) found (spots_at tokens at) → WholeText tokens ≡ (ended_at (spots_at tokens at) >>= λ x. text_from (length tokens - (turn + 1)) (found ++ x.0 ∷ []) x.1)
step-is tokens turn at found more e missed so =
    one_more (λ n. text_from n found (spots_at tokens at)) (length tokens) turn more so
    ∙ from-statement (length tokens - (turn + 1)) found (spots_at tokens at) e missed

pub read-statement : (tokens : List Token) (turn at next : ℕ) (x : Statement) (found new : List Statement) → turn < length tokens → ends (spots_at tokens at) ≡ false → sees 59 (spots_at tokens at) ≡ false → ended_at (spots_at tokens at) ≡ Ok (x, spots_at tokens next) → new ≡ found ++ x ∷ [] → WholeText tokens ≡ text_from (length tokens - turn) found (spots_at tokens at) → WholeText tokens ≡ text_from (length tokens - (turn + 1)) new (spots_at tokens next)
read-statement tokens turn at next x found new more e missed read puts so =
    step-is tokens turn at found more e missed so
    ∙ ap (λ o. o >>= λ y. text_from (length tokens - (turn + 1)) (found ++ y.0 ∷ []) y.1) read
    ∙ ap (λ f. text_from (length tokens - (turn + 1)) f (spots_at tokens next)) (sym puts)

pub read-refused : (tokens : List Token) (turn at : ℕ) (found : List Statement) (refusal : ParseRefusal) → turn < length tokens → ends (spots_at tokens at) ≡ false → sees 59 (spots_at tokens at) ≡ false → RefusesParse tokens (ended_at (spots_at tokens at)) refusal → WholeText tokens ≡ text_from (length tokens - turn) found (spots_at tokens at) → RefusesParse tokens (text_at (spots_at tokens 0)) refusal
read-refused tokens turn at found refusal more e missed refused so =
    refuses-same tokens (text_at (spots_at tokens 0)) (ended_at (spots_at tokens at) >>= λ x. text_from (length tokens - (turn + 1)) (found ++ x.0 ∷ []) x.1) refusal
    (whole-is tokens ∙ step-is tokens turn at found more e missed so)
    (refuses-first tokens (ended_at (spots_at tokens at)) (λ x. text_from (length tokens - (turn + 1)) (found ++ x.0 ∷ []) x.1) refusal refused)

pub read-past : (tokens : List Token) (turn at : ℕ) (found : List Statement) (fault : ConfigFault) → length tokens ≤ turn → ends (spots_at tokens at) ≡ false → IsUnexpected tokens at fault → WholeText tokens ≡ text_from (length tokens - turn) found (spots_at tokens at) → RefusesParse tokens (text_at (spots_at tokens 0)) (Bad fault)
read-past tokens turn at found fault past e u so =
    (fault_at Unexpected (spots_at tokens at), u.0, whole-is tokens ∙ no_more (λ n. text_from n found (spots_at tokens at)) (length tokens) turn past so ∙ from-none found (spots_at tokens at) e, u.1, u.2)

pub no-text : (tokens : List Token) (result : Result (List Statement) ParseRefusal) → AnswersAll tokens (text_at (spots_at tokens 0)) result → IsRefused result → (found : List Statement) → IsConfigText (spots_at tokens 0) found → ⊥
no-text tokens (Ok found) h refused = absurd refused
no-text tokens (Err (Bad fault)) h refused = λ found stands. text-none (spots_at tokens 0) found h.0 h.2 stands
no-text tokens (Err NoMemory) h refused = absurd refused
