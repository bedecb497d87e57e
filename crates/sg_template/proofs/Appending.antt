-- Texts that go on from a front.
use Rattle.std.proofs.Common.{◌≡◌, ℕ, List, [], ◌++◌, take, length, sym, ap, ◌∙◌, Result, Ok, Err, OnOk, OnErr, cond, is_ok}
use Rattle.std.proofs.lemmas.List.{append-nil, append_assoc}
use Rattle.std.proofs.Math.Seq.{take-append_seam}
use Rattle.sg_template.specs.Begins.{BeginsWith}

pub begins_same : (xs : List ℕ) → BeginsWith xs xs
begins_same xs = record { rest = []; is_text = sym (append-nil xs) }

pub begins_equal : (xs ys : List ℕ) → ys ≡ xs → BeginsWith xs ys
begins_equal xs ys e = record { rest = []; is_text = e ∙ sym (append-nil xs) }

pub begins_more : (xs ys more : List ℕ) → ys ≡ xs ++ more → BeginsWith xs ys
begins_more xs ys more e = record { rest = more; is_text = e }

pub begins_further : (xs ys zs : List ℕ) → BeginsWith xs ys → BeginsWith ys zs → BeginsWith xs zs
begins_further xs ys zs first second =
    record {
      rest = first.rest ++ second.rest;
      is_text = second.is_text ∙ (ap (λ (t : List ℕ). t ++ second.rest) first.is_text ∙ append_assoc xs first.rest second.rest);
    }

-- a failure behind one text that was appended
pub begins_behind : (xs ys zs more : List ℕ) → ys ≡ xs ++ more → BeginsWith ys zs → BeginsWith xs zs
begins_behind xs ys zs more e b = begins_further xs ys zs (begins_more xs ys more e) b

-- cut to its front, such a text is the front
pub take_begins : (xs ys : List ℕ) → BeginsWith xs ys → take (length xs) ys ≡ xs
take_begins xs ys b = ap (λ (t : List ℕ). take (length xs) t) b.is_text ∙ take-append_seam xs b.rest

-- the answer of one call
pub err_equal : {T E : Type 0} (r : Result T E) (old new : List ℕ) → OnErr r (new ≡ old) → OnErr r (BeginsWith old new)
err_equal (Ok x) old new e = tt
err_equal (Err x) old new e = begins_equal old new e

pub err_appended : {T E : Type 0} (r : Result T E) (old new more : List ℕ) → new ≡ cond (is_ok r) (old ++ more) old → OnErr r (BeginsWith old new)
err_appended (Ok x) old new more e = tt
err_appended (Err x) old new more e = begins_equal old new e

pub ok_appended : {T E : Type 0} (r : Result T E) (old new more text : List ℕ) → new ≡ cond (is_ok r) (old ++ more) old → more ≡ text → OnOk r (new ≡ old ++ text)
ok_appended (Ok x) old new more text e same = e ∙ ap (λ (t : List ℕ). old ++ t) same
ok_appended (Err x) old new more text e same = tt

-- the answer of a call behind others
pub err_behind : {T E : Type 0} (r : Result T E) (old mid new : List ℕ) → BeginsWith old mid → OnErr r (BeginsWith mid new) → OnErr r (BeginsWith old new)
err_behind (Ok x) old mid new front e = tt
err_behind (Err x) old mid new front e = begins_further old mid new front e

pub ok_behind : {T E : Type 0} (r : Result T E) (old mid new front more text : List ℕ) → mid ≡ old ++ front → front ++ more ≡ text → OnOk r (new ≡ mid ++ more) → OnOk r (new ≡ old ++ text)
ok_behind (Ok x) old mid new front more text e same is =
    is ∙ (ap (λ (t : List ℕ). t ++ more) e ∙ (append_assoc old front more ∙ ap (λ (t : List ℕ). old ++ t) same))
ok_behind (Err x) old mid new front more text e same is = tt

pub ok_same : {T E : Type 0} (r : Result T E) (old new more text : List ℕ) → more ≡ text → OnOk r (new ≡ old ++ more) → OnOk r (new ≡ old ++ text)
ok_same (Ok x) old new more text same e = e ∙ ap (λ (t : List ℕ). old ++ t) same
ok_same (Err x) old new more text same e = tt

pub ruleset appending = (begins_same, begins_equal, begins_behind, begins_further, err_equal, err_appended, append_assoc)
