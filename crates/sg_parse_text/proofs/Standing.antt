-- What stands at a place.
use Rattle.std.proofs.Common.{◌≡◌, ◌∙◌, ℕ, ◌+◌, ◌-◌, ◌<◌, ◌≤◌, true, false, List, [], ◌∷◌, length, Some, None, slice_get, Ok, Err, codes, refl, sym, ap, subst, ⊎_elim, arith}
use Rattle.std.proofs.lemmas.Bool.{cases_lt}
use Rattle.sg_list.proofs.ListLemmas.{slice_get-some, slice_get-none}
use Rattle.sg_lex.specs.declared.token.Token.{Token}
use Rattle.sg_lex.specs.declared.fault.ConfigFault.{ConfigFault}
use Rattle.sg_lex.specs.declared.fault.ConfigKind.TheVariants.{Unexpected}
use Rattle.sg_parse_base.specs.declared.spot.Spot.{Spot}
use Rattle.sg_parse_base.specs.Tokens.{is_symbol, is_keyword}
use Rattle.sg_parse_base.specs.Input.{ParseOutcome, ◌>>=◌, sees, sees_word, symbol, behind, fault_at}
use Rattle.sg_parse_base.proofs.Spots.{spots-at, spots-past}
use Rattle.sg_parse_base.specs.declared.fault.ParseFault.{ParseFault}
use Rattle.sg_parse_obj.specs.declared.object.Object.{Object}
use Rattle.sg_parse_obj.specs.declared.whole.ParseRefusal.{ParseRefusal}
use Rattle.sg_parse_obj.specs.declared.whole.ParseRefusal.TheVariants.{Bad, NoMemory}
use Rattle.sg_parse_obj.specs.Objects.{spots_at, object_at}
use Rattle.sg_parse_obj.specs.Answers.{fault_of}
use Rattle.sg_parse_obj.specs.Answers as obj
use Rattle.sg_parse_path.specs.declared.tree.RawLog.{RawLog}
use Rattle.sg_parse_path.specs.Paths.{log_in}
use Rattle.sg_parse_path.specs.Answers as path
use Rattle.sg_parse_text.specs.declared.statement.Statement.TheVariants as statement
use Rattle.sg_parse_text.specs.Texts.{ends, statement_at}
use Rattle.sg_parse_text.specs.Answers.{IsUnexpected, RefusesParse, unexpected_on}

pub at-some : (tokens : List Token) (at : ℕ) (token : Token) → slice_get tokens at ≡ Some token → spots_at tokens at ≡ (record { token = token; at = at }) ∷ spots_at tokens (at + 1)
unfolding spots_at
at-some tokens at token is = spots-at tokens at token is

pub at-none : (tokens : List Token) (at : ℕ) → slice_get tokens at ≡ None → spots_at tokens at ≡ []
unfolding spots_at
at-none tokens at is = spots-past tokens at is

pub ends-some : (tokens : List Token) (at : ℕ) (token : Token) → slice_get tokens at ≡ Some token → ends (spots_at tokens at) ≡ false
ends-some tokens at token is = ap ends (at-some tokens at token is)

pub ends-none : (tokens : List Token) (at : ℕ) → slice_get tokens at ≡ None → ends (spots_at tokens at) ≡ true
ends-none tokens at is = ap ends (at-none tokens at is)

pub sees-some : (byte : ℕ) (tokens : List Token) (at : ℕ) (token : Token) → slice_get tokens at ≡ Some token → sees byte (spots_at tokens at) ≡ is_symbol byte token
unfolding sees
sees-some byte tokens at token is = ap (sees byte) (at-some tokens at token is)

pub sees-none : (byte : ℕ) (tokens : List Token) (at : ℕ) → slice_get tokens at ≡ None → sees byte (spots_at tokens at) ≡ false
unfolding sees
sees-none byte tokens at is = ap (sees byte) (at-none tokens at is)

pub word-some : (word : List ℕ) (tokens : List Token) (at : ℕ) (token : Token) → slice_get tokens at ≡ Some token → sees_word word (spots_at tokens at) ≡ is_keyword word token
unfolding sees_word
word-some word tokens at token is = ap (sees_word word) (at-some tokens at token is)

pub word-none : (word : List ℕ) (tokens : List Token) (at : ℕ) → slice_get tokens at ≡ None → sees_word word (spots_at tokens at) ≡ false
unfolding sees_word
word-none word tokens at is = ap (sees_word word) (at-none tokens at is)

pub unexpected-some : (tokens : List Token) (at : ℕ) (token : Token) (fault : ConfigFault) → 0 < length tokens → slice_get tokens at ≡ Some token → fault ≡ unexpected_on token → IsUnexpected tokens at fault
unexpected-some tokens at token fault some is says =
    let last = slice_get-some tokens (length tokens - 1) (omega (arith, some)) in
    (last.0, last.1, says ∙ ap (λ s. fault_of (fault_at Unexpected s) last.0) (sym (at-some tokens at token is)))

pub unexpected-none : (tokens : List Token) (at : ℕ) (last : Token) (fault : ConfigFault) → slice_get tokens (length tokens - 1) ≡ Some last → slice_get tokens at ≡ None → fault ≡ unexpected_on last → IsUnexpected tokens at fault
unexpected-none tokens at last fault ends is says = (last, ends, says ∙ ap (λ s. fault_of (fault_at Unexpected s) last) (sym (at-none tokens at is)))

pub within : (tokens : List Token) (at : ℕ) (token : Token) → slice_get tokens at ≡ Some token → at < length tokens
within tokens at token is =
    ⊎_elim (λ below. below) (λ past. let none : slice_get tokens at ≡ None = slice_get-none tokens at past in absurd cc) (cases_lt at (length tokens))

pub semicolon-seen : (tokens : List Token) (at : ℕ) → at < length tokens → sees 59 (spots_at tokens at) ≡ true → symbol 59 (spots_at tokens at) ≡ Ok (tt, spots_at tokens (at + 1))
unfolding symbol
semicolon-seen tokens at below seen =
    let token = slice_get-some tokens at below in
    rw seen (ap (λ s. Ok (tt, behind s)) (at-some tokens at token.0 token.1))

pub semicolon-missed : (tokens : List Token) (at : ℕ) → sees 59 (spots_at tokens at) ≡ false → symbol 59 (spots_at tokens at) ≡ Err (fault_at Unexpected (spots_at tokens at))
unfolding symbol
semicolon-missed tokens at missed = rw missed refl

pub log-read : (tokens : List Token) (at next : ℕ) (log : RawLog) → sees_word (codes "log") (spots_at tokens at) ≡ true → log_in 64 (spots_at tokens at) ≡ Ok (log, spots_at tokens next) → statement_at (spots_at tokens at) ≡ Ok (statement.Log log, spots_at tokens next)
unfolding statement_at
log-read tokens at next log word read = rw (word, read) refl

pub log-refused : (tokens : List Token) (at : ℕ) (fault : ParseFault) → sees_word (codes "log") (spots_at tokens at) ≡ true → log_in 64 (spots_at tokens at) ≡ Err fault → statement_at (spots_at tokens at) ≡ Err fault
unfolding statement_at
log-refused tokens at fault word read = rw (word, read) refl

pub object-read : (tokens : List Token) (at next : ℕ) (object : Object) → sees_word (codes "log") (spots_at tokens at) ≡ false → object_at (spots_at tokens at) ≡ Ok (object, spots_at tokens next) → statement_at (spots_at tokens at) ≡ Ok (statement.Object object, spots_at tokens next)
unfolding statement_at
object-read tokens at next object word read = rw (word, read) refl

pub object-refused : (tokens : List Token) (at : ℕ) (fault : ParseFault) → sees_word (codes "log") (spots_at tokens at) ≡ false → object_at (spots_at tokens at) ≡ Err fault → statement_at (spots_at tokens at) ≡ Err fault
unfolding statement_at
object-refused tokens at fault word read = rw (word, read) refl

pub refuses-log : (tokens : List Token) (at : ℕ) (refusal : ParseRefusal) → sees_word (codes "log") (spots_at tokens at) ≡ true → path.RefusesLog tokens (log_in 64 (spots_at tokens at)) refusal → RefusesParse tokens (statement_at (spots_at tokens at)) refusal
refuses-log tokens at (Bad fault) word h = (h.0, h.1, log-refused tokens at h.0 word h.2, h.3, h.4)
refuses-log tokens at NoMemory word h = tt

pub refuses-object : (tokens : List Token) (at : ℕ) (refusal : ParseRefusal) → sees_word (codes "log") (spots_at tokens at) ≡ false → obj.RefusesObject tokens (object_at (spots_at tokens at)) refusal → RefusesParse tokens (statement_at (spots_at tokens at)) refusal
refuses-object tokens at (Bad fault) word h = (h.0, h.1, object-refused tokens at h.0 word h.2, h.3, h.4)
refuses-object tokens at NoMemory word h = tt

-- a refusal of the first of two steps
pub refuses-first : {A B : Type 0} (tokens : List Token) (outcome : ParseOutcome A) (f : A × List Spot → ParseOutcome B) (refusal : ParseRefusal) → RefusesParse tokens outcome refusal → RefusesParse tokens (outcome >>= f) refusal
refuses-first tokens outcome f (Bad fault) h = (h.0, h.1, ap (λ o. o >>= f) h.2, h.3, h.4)
refuses-first tokens outcome f NoMemory h = tt

pub refuses-same : {A : Type 0} (tokens : List Token) (a b : ParseOutcome A) (refusal : ParseRefusal) → a ≡ b → RefusesParse tokens b refusal → RefusesParse tokens a refusal
refuses-same tokens a b refusal same h = subst (λ o. RefusesParse tokens o refusal) (sym same) h
