-- Runs of printing bytes in a field.
use Rattle.std.proofs.Common.{◌≡◌, ℕ, ◌-◌, ◌≤◌, Bool, true, false, List, [], ◌∷◌, ◌++◌, length, take, drop, map, refl, ap, sym, ◌∙◌, arith, subst, append_assoc, append-nil}
use Rattle.std.specs.List.{prefix_len}
use Rattle.std.proofs.lemmas.List.{take_all}
use Rattle.sg_msg.specs.Sets.{is_print}
use Rattle.sg_r5424.specs.Write.{printed}
use Rattle.sg_template.proofs.Runs.{one_more}

abbrev pub print_length : List ℕ → ℕ
print_length value = prefix_len is_print value

abbrev IsPrintedRun : List ℕ → Type 0
IsPrintedRun value = map printed value ≡ take (print_length value) value ++ map printed (drop (print_length value) value)

run_by : (e : Bool) (b : ℕ) (bytes : List ℕ) → is_print b ≡ e → IsPrintedRun bytes → IsPrintedRun (b ∷ bytes)
run_by false b bytes h so_far = rw (h, h) refl
run_by true b bytes h so_far = rw (h, one_more (print_length bytes)) (ap (λ (t : List ℕ). b ∷ t) so_far)

-- a value begins with such a run
is_run : (value : List ℕ) → IsPrintedRun value
is_run [] = refl
is_run (b ∷ bytes) = run_by (is_print b) b bytes refl (is_run bytes)

abbrev StopsPrinting : List ℕ → Type 0
StopsPrinting value = (b : ℕ) (bytes : List ℕ) → drop (print_length value) value ≡ b ∷ bytes → is_print b ≡ false

stops_by : (e : Bool) (x : ℕ) (xs : List ℕ) → is_print x ≡ e → StopsPrinting xs → StopsPrinting (x ∷ xs)
stops_by false x xs h later b bytes e =
    let whole = rw h at e in
    let same : x ≡ b = cc in
    subst (λ (y : ℕ). is_print y ≡ false) same h
stops_by true x xs h later b bytes e =
    later b bytes (rw (h, one_more (print_length xs)) at e)

-- the byte behind such a run doesn't print
stops : (value : List ℕ) → StopsPrinting value
stops [] b bytes e = absurd (let wrong : [] ≡ b ∷ bytes = e in cc)
stops (x ∷ xs) b bytes e = stops_by (is_print x) x xs refl (stops xs) b bytes e

pub run-all : (value out mid : List ℕ) (n : ℕ) → n ≡ print_length value → drop n value ≡ [] → mid ≡ out ++ take n value → mid ++ [] ≡ out ++ map printed value
run-all value out mid n e none first =
    let here : drop (print_length value) value ≡ [] = ap (λ (k : ℕ). drop k value) (sym e) ∙ none in
    let whole : take n value ++ map printed [] ≡ map printed value =
    ap (λ (k : ℕ). take k value ++ map printed []) e ∙ (ap (λ (t : List ℕ). take (print_length value) value ++ map printed t) (sym here) ∙ sym (is_run value)) in
    append-nil mid ∙ (first ∙ ap (λ (t : List ℕ). out ++ t) (sym (append-nil (take n value)) ∙ whole))

more : (value out mid new bytes : List ℕ) (n b : ℕ) → n ≡ print_length value → b ∷ bytes ≡ drop n value
    → mid ≡ out ++ take n value → new ≡ mid ++ 95 ∷ [] → new ++ map printed bytes ≡ out ++ map printed value
more value out mid new bytes n b e is first second =
    let here : drop (print_length value) value ≡ b ∷ bytes = ap (λ (k : ℕ). drop k value) (sym e) ∙ sym is in
    let replaced : map printed (b ∷ bytes) ≡ 95 ∷ map printed bytes = rw (stops value b bytes here) refl in
    let whole : map printed value ≡ take n value ++ (95 ∷ map printed bytes) =
    is_run value
    ∙ (ap (λ (k : ℕ). take k value ++ map printed (drop (print_length value) value)) (sym e)
    ∙ (ap (λ (t : List ℕ). take n value ++ map printed t) here
    ∙ ap (λ (t : List ℕ). take n value ++ t) replaced)) in
    let regroup : ((out ++ take n value) ++ 95 ∷ []) ++ map printed bytes ≡ out ++ (take n value ++ (95 ∷ map printed bytes)) = simp append_assoc in
    ap (λ (t : List ℕ). t ++ map printed bytes) (second ∙ ap (λ (t : List ℕ). t ++ 95 ∷ []) first)
    ∙ (regroup ∙ ap (λ (t : List ℕ). out ++ t) (sym whole))

pub run-more : (value out mid new behind : List ℕ) (n : ℕ) → n ≡ print_length value → behind ≡ drop n value → 1 ≤ length behind
    → mid ≡ out ++ take n value → new ≡ mid ++ 95 ∷ []
    → new ++ map printed (take (length behind - 1) (drop 1 behind)) ≡ out ++ map printed value
run-more value out mid new [] n e is some first second = absurd (omega arith)
run-more value out mid new (b ∷ bytes) n e is some first second =
    let rest : take (length (b ∷ bytes) - 1) bytes ≡ bytes = take_all (length (b ∷ bytes) - 1) bytes (omega arith) in
    ap (λ (t : List ℕ). new ++ map printed t) rest ∙ more value out mid new bytes n b e is first second
