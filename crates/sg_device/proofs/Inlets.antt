-- An inlet goes on: one call does, and so do any calls one after the other.
use Rattle.std.specs.Option.{option_map}
use Rattle.std.proofs.Common.{◌≡◌, ◌≤◌, ◌+◌, ℕ, ℤ, max, map, IfSome, true, Option, Some, None, List, [], ◌∷◌, ◌++◌, length, take, Result, Ok, Err, refl, sym, ap, ◌∙◌, subst, arith, append_assoc, length-append}
use Rattle.std.proofs.lemmas.List.{append-nil, length-take-le}
use Rattle.sg_device.specs.Inlet.{Stamped, Part, InletState, stamped, with_bytes, with_part, PullIsWhole, PullTells, PullMoves, PullLeaves, PullCounts, PullFaults, HangsUp, PartsGoOn, TellsOn, bytes_of, Advances}
use Rattle.sg_device.specs.declared.inlet.Pull.{Pull}
use Rattle.sg_device.specs.declared.inlet.Pull.TheVariants.{Bytes, Next, Idle, End}
use Rattle.sg_device.specs.declared.fault.InletFault.{InletFault}

abbrev with_more : Part → List Stamped → Part
with_more part more = record part { given = part.given ++ more }

goes_refl : (parts : List Part) → PartsGoOn parts parts
goes_refl [] = tt
goes_refl (p ∷ []) = ([], ([], ap (λ (given : List Stamped). record p { given = given } ∷ []) (sym (append-nil p.given))))
goes_refl (p ∷ q ∷ ps) = (q ∷ ps, (refl, goes_refl (q ∷ ps)))

goes_bytes : (parts : List Part) (peer : List ℕ) (given : List Stamped) → PartsGoOn parts (with_bytes parts peer given)
goes_bytes [] peer given = tt
goes_bytes (p ∷ []) peer given = (given, ([], refl))
goes_bytes (p ∷ q ∷ ps) peer given = (with_bytes (q ∷ ps) peer given, (refl, goes_bytes (q ∷ ps) peer given))

goes_part : (parts : List Part) (peer : List ℕ) → PartsGoOn parts (with_part parts peer)
goes_part [] peer = tt
goes_part (p ∷ []) peer = ([], ((record { peer = peer; given = [] }) ∷ [], ap (λ (given : List Stamped). record p { given = given } ∷ (record { peer = peer; given = [] }) ∷ []) (sym (append-nil p.given))))
goes_part (p ∷ q ∷ ps) peer = (with_part (q ∷ ps) peer, (refl, goes_part (q ∷ ps) peer))

-- what goes on from some parts is some parts
goes_some : (q : Part) (ps rest : List Part) → PartsGoOn (q ∷ ps) rest → (r : Part) × ((rs : List Part) × (rest ≡ r ∷ rs))
goes_some q [] rest (more, (rs, is)) = (_, (rs, is))
goes_some q (p ∷ ps) rest (rs, (is, on)) = (q, (rs, is))

goes_last : (p : Part) (more : List Stamped) (rest later : List Part) → PartsGoOn (with_more p more ∷ rest) later → PartsGoOn (p ∷ []) later
goes_last p more [] later (then, (rest, is)) = (more ++ then, (rest, is ∙ ap (λ (given : List Stamped). record p { given = given } ∷ rest) (append_assoc p.given more then)))
goes_last p more (q ∷ qs) later (rest, (is, on)) = (more, (rest, is))

goes_trans : (a b c : List Part) → PartsGoOn a b → PartsGoOn b c → PartsGoOn a c
goes_trans [] b c first second = tt
goes_trans (p ∷ []) b c (more, (rest, is)) second = goes_last p more rest c (subst (λ (parts : List Part). PartsGoOn parts c) is second)
goes_trans (p ∷ q ∷ ps) b c (rest, (is, on)) second =
    let some = goes_some q ps rest on in
    let r = some.0 in
    let rs = some.1.0 in
    let later : PartsGoOn (p ∷ r ∷ rs) c = subst (λ (parts : List Part). PartsGoOn (p ∷ parts) c) some.1.1 (subst (λ (parts : List Part). PartsGoOn parts c) is second) in
    (later.0, (later.1.0, goes_trans (q ∷ ps) (r ∷ rs) later.0 (subst (λ (parts : List Part). PartsGoOn (q ∷ ps) parts) some.1.1 on) later.1.1))

tells_refl : (told : Option (List Part)) → TellsOn told told
tells_refl None = refl
tells_refl (Some parts) = goes_refl parts

tells_map : (f : List Part → List Part) → ((parts : List Part) → PartsGoOn parts (f parts)) → (old new : Option (List Part)) → new ≡ option_map f old → TellsOn old new
tells_map f on None new is = is
tells_map f on (Some parts) new is = subst (λ (told : Option (List Part)). TellsOn (Some parts) told) (sym is) (on parts)

tells_trans : (a b c : Option (List Part)) → TellsOn a b → TellsOn b c → TellsOn a c
tells_trans None b c first second = subst (λ (told : Option (List Part)). TellsOn told c) first second
tells_trans (Some xs) (Some ys) (Some zs) first second = goes_trans xs ys zs first second
tells_trans (Some xs) (Some ys) None first second = second
tells_trans (Some xs) None c first second = absurd first

left_refl : (left : Option (List ℕ)) → left ≡ option_map (λ bytes. [] ++ bytes) left
left_refl None = refl
left_refl (Some bytes) = refl

left_trans : (given more : List ℕ) (a b c : Option (List ℕ)) → a ≡ option_map (λ left. given ++ left) b → b ≡ option_map (λ left. more ++ left) c → a ≡ option_map (λ left. (given ++ more) ++ left) c
left_trans given more a b None first second = first ∙ ap (λ (left : Option (List ℕ)). option_map (λ l. given ++ l) left) second
left_trans given more a b (Some left) first second = first ∙ ap (λ (l : Option (List ℕ)). option_map (λ bytes. given ++ bytes) l) second ∙ ap (λ (bytes : List ℕ). Some bytes) (sym (append_assoc given more left))

-- the bytes of the parts

plain_append : (xs ys : List Stamped) → map (λ b. b.0) (xs ++ ys) ≡ map (λ b. b.0) xs ++ map (λ b. b.0) ys
plain_append [] ys = refl
plain_append (x ∷ xs) ys = ap (λ (bytes : List ℕ). x.0 ∷ bytes) (plain_append xs ys)

plain_stamped : (bytes : List ℕ) (at : ℤ) → map (λ b. b.0) (stamped bytes at) ≡ bytes
plain_stamped [] at = refl
plain_stamped (b ∷ bytes) at = ap (λ (rest : List ℕ). b ∷ rest) (plain_stamped bytes at)

bytes_more : (parts : List Part) (peer bytes : List ℕ) (at : ℤ) → bytes_of (with_bytes parts peer (stamped bytes at)) ≡ bytes_of parts ++ bytes
bytes_more [] peer bytes at = append-nil (map (λ b. b.0) (stamped bytes at)) ∙ plain_stamped bytes at
bytes_more (p ∷ []) peer bytes at =
    append-nil (map (λ b. b.0) (p.given ++ stamped bytes at)) ∙ plain_append p.given (stamped bytes at) ∙ ap (λ (rest : List ℕ). map (λ b. b.0) p.given ++ rest) (plain_stamped bytes at)
    ∙ ap (λ (first : List ℕ). first ++ bytes) (sym (append-nil (map (λ b. b.0) p.given)))
bytes_more (p ∷ q ∷ ps) peer bytes at =
    ap (λ (rest : List ℕ). map (λ b. b.0) p.given ++ rest) (bytes_more (q ∷ ps) peer bytes at) ∙ sym (append_assoc (map (λ b. b.0) p.given) (bytes_of (q ∷ ps)) bytes)

bytes_same : (parts : List Part) (peer : List ℕ) → bytes_of (with_part parts peer) ≡ bytes_of parts ++ []
bytes_same [] peer = refl
bytes_same (p ∷ ps) peer = ap (λ (rest : List ℕ). map (λ b. b.0) p.given ++ rest) (bytes_same ps peer) ∙ sym (append_assoc (map (λ b. b.0) p.given) (bytes_of ps) [])

count_more : (parts : List Part) (peer : List ℕ) (given : List Stamped) → length (with_bytes parts peer given) ≡ max (length parts) 1
count_more [] peer given = refl
count_more (p ∷ []) peer given = refl
count_more (p ∷ q ∷ ps) peer given = omega (arith, count_more (q ∷ ps) peer given)

told_refl : (told : Option (List Part)) → option_map bytes_of told ≡ option_map (λ parts. bytes_of parts ++ []) told
told_refl None = refl
told_refl (Some parts) = ap (λ (bytes : List ℕ). Some bytes) (sym (append-nil (bytes_of parts)))

told_map : (f : List Part → List Part) (given : List ℕ) → ((parts : List Part) → bytes_of (f parts) ≡ bytes_of parts ++ given) → (old new : Option (List Part)) → new ≡ option_map f old
    → option_map bytes_of new ≡ option_map (λ parts. bytes_of parts ++ given) old
told_map f given more None new is = ap (λ (told : Option (List Part)). option_map bytes_of told) is
told_map f given more (Some parts) new is = ap (λ (told : Option (List Part)). option_map bytes_of told) is ∙ ap (λ (bytes : List ℕ). Some bytes) (more parts)

told_over : (given more : List ℕ) (a b : Option (List Part)) → option_map bytes_of b ≡ option_map (λ parts. bytes_of parts ++ given) a
    → option_map (λ parts. bytes_of parts ++ more) b ≡ option_map (λ parts. bytes_of parts ++ (given ++ more)) a
told_over given more None None is = refl
told_over given more None (Some ys) is = absurd (cc is)
told_over given more (Some xs) None is = absurd (cc is)
told_over given more (Some xs) (Some ys) is =
    ap (λ (bytes : Option (List ℕ)). option_map (λ (b : List ℕ). b ++ more) bytes) is ∙ ap (λ (bytes : List ℕ). Some bytes) (append_assoc (bytes_of xs) given more)

counted_map : (f : List Part → List Part) (p q : ℕ) → ((parts : List Part) → length parts ≡ p → length (f parts) ≡ q) → (old new : Option (List Part)) → new ≡ option_map f old
    → IfSome old (λ parts. length parts ≡ p) → IfSome new (λ parts. length parts ≡ q)
counted_map f p q more None new is counted = subst (λ (told : Option (List Part)). IfSome told (λ parts. length parts ≡ q)) (sym is) tt
counted_map f p q more (Some parts) new is counted = subst (λ (told : Option (List Part)). IfSome told (λ parts. length parts ≡ q)) (sym is) (more parts counted)

-- any calls

pub advances_refl : (inlet : InletState) → Advances inlet inlet
advances_refl inlet = record {
  told = tells_refl inlet.told;
  given = [];
  left = left_refl inlet.left;
  bytes = omega arith;
  bytes_told = told_refl inlet.told;
  parts_told = λ counted. counted;
  from = refl;
  parts = omega arith;
  pulls = omega arith;
  idles = omega arith;
  faults = omega arith;
  ended = λ ended. ended;
  single = refl;
  place = λ single. omega arith;
  one = λ single. omega arith;
}

pub advances_trans : (a b c : InletState) → Advances a b → Advances b c → Advances a c
advances_trans a b c first second = record {
  told = tells_trans a.told b.told c.told first.told second.told;
  given = first.given ++ second.given;
  left = left_trans first.given second.given a.left b.left c.left first.left second.left;
  bytes = omega (arith, length-append first.given second.given, first.bytes, second.bytes);
  bytes_told = second.bytes_told ∙ told_over first.given second.given a.told b.told first.bytes_told;
  parts_told = λ counted. second.parts_told (first.parts_told counted);
  from = second.from ∙ first.from;
  parts = omega (arith, first.parts, second.parts);
  pulls = omega (arith, first.pulls, second.pulls);
  idles = omega (arith, first.idles, second.idles);
  faults = omega (arith, first.faults, second.faults);
  ended = λ ended. second.ended (first.ended ended);
  single = second.single ∙ first.single;
  place = λ single. omega (arith, length-append first.given second.given, first.place single, second.place (first.single ∙ single));
  one = λ single. omega (arith, first.one single, second.one (first.single ∙ single));
}

counted_same : (old new : Option (List Part)) (p q : ℕ) → new ≡ old → q ≡ p → IfSome old (λ parts. length parts ≡ p) → IfSome new (λ parts. length parts ≡ q)
counted_same old new p q told parts counted = subst (λ (n : ℕ). IfSome new (λ parts. length parts ≡ n)) (sym parts) (subst (λ (t : Option (List Part)). IfSome t (λ parts. length parts ≡ p)) (sym told) counted)

-- a call that gives nothing and leaves the parts
stays : (old new : InletState) → new.told ≡ old.told → new.left ≡ old.left → new.bytes ≡ old.bytes → new.from ≡ old.from → new.place ≡ old.place → new.parts ≡ old.parts
    → old.pulls ≤ new.pulls → old.idles ≤ new.idles → old.faults ≤ new.faults → (old.ended ≡ true → new.ended ≡ true) → new.single ≡ old.single → Advances old new
stays old new told left bytes from place parts pulls idles faults ended single = record {
  told = subst (λ (t : Option (List Part)). TellsOn old.told t) (sym told) (tells_refl old.told);
  given = [];
  left = left_refl old.left ∙ ap (λ (l : Option (List ℕ)). option_map (λ b. [] ++ b) l) (sym left);
  bytes = omega (arith, bytes);
  bytes_told = ap (λ (t : Option (List Part)). option_map bytes_of t) told ∙ told_refl old.told;
  parts_told = λ counted. counted_same old.told new.told old.parts new.parts told parts counted;
  from = from;
  parts = omega (arith, parts);
  pulls = pulls;
  idles = idles;
  faults = faults;
  ended = ended;
  single = single;
  place = λ _. omega (arith, place);
  one = λ _. omega (arith, parts);
}

-- a pull
pub advances_pull : (old new : InletState) (into : List ℕ) (result : Result Pull InletFault) → PullIsWhole (length into) result → PullTells old new into result
    → PullMoves old new result → PullLeaves old new into result → PullCounts old new result → PullFaults old new result → Advances old new
advances_pull old new into (Ok (Bytes len at)) whole tells moves leaves (pulls, idles, bytes, parts, was, is, unhung, hung, single) faults =
    let size : length (take len into) ≡ len = length-take-le len into whole.1 in
    record {
      told = tells_map (λ ps. with_bytes ps new.peer (stamped (take len into) at)) (λ ps. goes_bytes ps new.peer (stamped (take len into) at)) old.told new.told tells.0;
      given = take len into;
      left = leaves;
      bytes = omega (arith, size, bytes);
      bytes_told = told_map (λ ps. with_bytes ps new.peer (stamped (take len into) at)) (take len into) (λ ps. bytes_more ps new.peer (take len into) at) old.told new.told tells.0;
      parts_told = counted_map (λ ps. with_bytes ps new.peer (stamped (take len into) at)) old.parts new.parts
          (λ ps is. count_more ps new.peer (stamped (take len into) at) ∙ ap (λ (n : ℕ). max n 1) is ∙ sym parts) old.told new.told tells.0;
      from = moves.0;
      parts = omega (arith, parts);
      pulls = omega (arith, pulls);
      idles = omega (arith, idles);
      faults = faults;
      ended = λ ended. absurd (grind arith);
      single = single;
      place = λ _. omega (arith, size, moves.1);
      one = λ _. omega (arith, parts);
    }
advances_pull old new into (Ok Next) whole tells moves leaves (pulls, idles, bytes, parts, was, is, hung, before, after) faults = record {
  told = tells_map (λ ps. with_part ps new.peer) (λ ps. goes_part ps new.peer) old.told new.told tells;
  given = [];
  left = left_refl old.left ∙ ap (λ (l : Option (List ℕ)). option_map (λ b. [] ++ b) l) (sym leaves);
  bytes = omega (arith, bytes);
  bytes_told = told_map (λ ps. with_part ps new.peer) [] (λ ps. bytes_same ps new.peer) old.told new.told tells;
  parts_told = counted_map (λ ps. with_part ps new.peer) old.parts new.parts (λ ps is. length-append ps _ ∙ ap (λ (n : ℕ). n + 1) is ∙ sym parts) old.told new.told tells;
  from = moves.0;
  parts = omega (arith, parts);
  pulls = omega (arith, pulls);
  idles = omega (arith, idles);
  faults = faults;
  ended = λ ended. absurd (grind arith);
  single = after ∙ sym before;
  place = λ single. absurd (grind arith);
  one = λ single. absurd (grind arith);
}
advances_pull old new into (Ok Idle) whole tells moves leaves (pulls, idles, bytes, parts, was, is, hung, single) faults =
    stays old new tells.0 leaves bytes moves.0 moves.1 parts (omega (arith, pulls)) (omega (arith, idles)) faults (λ ended. absurd (grind arith)) single
advances_pull old new into (Ok End) whole tells moves leaves (pulls, idles, bytes, parts, is, hung, single) faults =
    stays old new tells.0 leaves.0 bytes moves.0 moves.1 parts (omega (arith, pulls)) (omega (arith, idles)) faults (λ ended. is) single
advances_pull old new into (Err e) whole tells moves leaves (pulls, idles, bytes, parts, is, hung, single) faults =
    stays old new tells.0 leaves bytes moves.0 moves.1 parts (omega (arith, pulls)) (omega (arith, idles)) faults.0 (λ ended. is ∙ ended) single

pub advances_hangup : (old new : InletState) → HangsUp old new → Advances old new
advances_hangup old new is = subst (λ (inlet : InletState). Advances old inlet) (sym is)
    (stays old (record old { hung = true }) refl refl refl refl refl refl (omega arith) (omega arith) (omega arith) (λ ended. ended) refl)
