-- Runs of bytes that stand for themselves in a value.
use Rattle.std.proofs.Common.{◌≡◌, ℕ, suc, ◌+◌, ◌-◌, ◌≤◌, Bool, true, false, not, List, [], ◌∷◌, ◌++◌, length, take, drop, get_or, refl, ap, sym, ◌∙◌, arith, subst, append_assoc, append-nil}
use Rattle.std.specs.List.{prefix_len}
use Rattle.std.proofs.lemmas.List.{take_all}
use Rattle.sg_msg.specs.Sets.{is_escaped}
use Rattle.sg_template.specs.Elements.{escaped}

abbrev pub plain_length : List ℕ → ℕ
plain_length value = prefix_len (λ (b : ℕ). not (is_escaped b)) value

abbrev pub IsRun : List ℕ → Type 0
IsRun value = escaped value ≡ take (plain_length value) value ++ escaped (drop (plain_length value) value)

pub one_more : (n : ℕ) → 1 + n ≡ suc n
one_more n = omega arith

run_by : (e : Bool) (b : ℕ) (bytes : List ℕ) → is_escaped b ≡ e → IsRun bytes → IsRun (b ∷ bytes)
run_by true b bytes h so_far = rw (h, h) refl
run_by false b bytes h so_far = rw (h, one_more (plain_length bytes)) (ap (λ (t : List ℕ). b ∷ t) so_far)

-- a value is such a run, and what is behind it
pub is_run : (value : List ℕ) → IsRun value
is_run [] = refl
is_run (b ∷ bytes) = run_by (is_escaped b) b bytes refl (is_run bytes)

abbrev pub StopsPlain : List ℕ → Type 0
StopsPlain value = (b : ℕ) (bytes : List ℕ) → drop (plain_length value) value ≡ b ∷ bytes → is_escaped b ≡ true

stops_by : (e : Bool) (x : ℕ) (xs : List ℕ) → is_escaped x ≡ e → StopsPlain xs → StopsPlain (x ∷ xs)
stops_by true x xs h later b bytes e =
    let whole = rw h at e in
    let same : x ≡ b = cc in
    subst (λ (y : ℕ). is_escaped y ≡ true) same h
stops_by false x xs h later b bytes e =
    later b bytes (rw (h, one_more (plain_length xs)) at e)

-- the byte behind such a run isn't of it
pub stops : (value : List ℕ) → StopsPlain value
stops [] b bytes e = absurd (let wrong : [] ≡ b ∷ bytes = e in cc)
stops (x ∷ xs) b bytes e = stops_by (is_escaped x) x xs refl (stops xs) b bytes e

pub run-all : (value out mid : List ℕ) (n : ℕ) → n ≡ plain_length value → drop n value ≡ [] → mid ≡ out ++ take n value → mid ++ [] ≡ out ++ escaped value
run-all value out mid n e none first =
    let here : drop (plain_length value) value ≡ [] = ap (λ (k : ℕ). drop k value) (sym e) ∙ none in
    let whole : take n value ++ escaped [] ≡ escaped value =
    ap (λ (k : ℕ). take k value ++ escaped []) e ∙ (ap (λ (t : List ℕ). take (plain_length value) value ++ escaped t) (sym here) ∙ sym (is_run value)) in
    append-nil mid ∙ (first ∙ ap (λ (t : List ℕ). out ++ t) (sym (append-nil (take n value)) ∙ whole))

-- the byte behind a run, and what is left
escaped_by : (e : Bool) (b : ℕ) (bytes : List ℕ) → is_escaped b ≡ e → e ≡ true → escaped (b ∷ bytes) ≡ (92 ∷ b ∷ []) ++ escaped bytes
escaped_by true b bytes h is = rw h refl
escaped_by false b bytes h is = absurd (let wrong : false ≡ true = is in cc)

more : (value out mid new bytes : List ℕ) (n b : ℕ) → n ≡ plain_length value → b ∷ bytes ≡ drop n value
    → mid ≡ out ++ take n value → new ≡ mid ++ 92 ∷ b ∷ [] → new ++ escaped bytes ≡ out ++ escaped value
more value out mid new bytes n b e is first second =
    let here : drop (plain_length value) value ≡ b ∷ bytes = ap (λ (k : ℕ). drop k value) (sym e) ∙ sym is in
    let whole : escaped value ≡ take n value ++ ((92 ∷ b ∷ []) ++ escaped bytes) =
    is_run value
    ∙ (ap (λ (k : ℕ). take k value ++ escaped (drop (plain_length value) value)) (sym e)
    ∙ (ap (λ (t : List ℕ). take n value ++ escaped t) here
    ∙ ap (λ (t : List ℕ). take n value ++ t) (escaped_by (is_escaped b) b bytes refl (stops value b bytes here)))) in
    let regroup : ((out ++ take n value) ++ (92 ∷ b ∷ [])) ++ escaped bytes ≡ out ++ (take n value ++ ((92 ∷ b ∷ []) ++ escaped bytes)) = simp append_assoc in
    ap (λ (t : List ℕ). t ++ escaped bytes) (second ∙ ap (λ (t : List ℕ). t ++ 92 ∷ b ∷ []) first)
    ∙ (regroup ∙ ap (λ (t : List ℕ). out ++ t) (sym whole))

pub run-more : (value out mid new behind : List ℕ) (n : ℕ) → n ≡ plain_length value → behind ≡ drop n value → 1 ≤ length behind
    → mid ≡ out ++ take n value → new ≡ mid ++ 92 ∷ get_or behind 0 0 ∷ []
    → new ++ escaped (take (length behind - 1) (drop 1 behind)) ≡ out ++ escaped value
run-more value out mid new [] n e is some first second = absurd (omega arith)
run-more value out mid new (b ∷ bytes) n e is some first second =
    let rest : take (length (b ∷ bytes) - 1) bytes ≡ bytes = take_all (length (b ∷ bytes) - 1) bytes (omega arith) in
    ap (λ (t : List ℕ). new ++ escaped t) rest ∙ more value out mid new bytes n b e is first second
