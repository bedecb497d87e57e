-- Ways out that are finished one after another.
use Rattle.std.proofs.Common.{◌≡◌, ◌≤◌, ◌<◌, ℕ, suc, ◌+◌, Bool, true, false, List, [], ◌∷◌, ◌++◌, length, map, take, drop, get_or, set, slice_get, Some, None, Option, refl, sym, ap, ◌∙◌, arith, subst, append_assoc, drop-cons}
use mathlib.Core.Bool.{beq}
use Rattle.std.specs.Prelude.{not, is_some, if◌then◌else◌, slice_set, option_map}
use Rattle.std.proofs.lemmas.List.{append-nil, length-map, length-take-le, map-append, map-set, set-get_or, take_more, take_more_set, take_all, drop-set-lt, drop_all}
use Rattle.sg_list.proofs.ListLemmas.{drop-get}
use Rattle.sg_device.specs.Disk.{DiskState}
use Rattle.sg_device.specs.Outlet.{OutletState}
use Rattle.sg_overflow.specs.Buffered.{HeldState, buffered_of, held_state, has_failed, FinishesAs, IsToldBy}
use Rattle.sg_overflow.specs.declared.answers.Finished.{Finished}
use Rattle.sg_overflow.specs.declared.buffered.Buffered.{Buffered}
use Rattle.sg_serve.specs.Counts.{numbers_from}
use Rattle.sg_serve.specs.Overflows.{is_refused, is_sink, held_at, held_from, held_more, failed_from, sinks_from, NotesHeld, IsFinished, RestsBegin, AllFinish, AreFinished}
use Rattle.sg_serve.specs.declared.overflows.OutletRests.{OutletRests}

-- Lists with one more at their end.

mark-step : (b : Bool) (d : ℕ) (as' bs cs : List ℕ) → as' ≡ bs ++ cs → (if b then d ∷ as' else as') ≡ (if b then d ∷ bs else bs) ++ cs
mark-step true d as' bs cs same = ap (λ (l : List ℕ). d ∷ l) same
mark-step false d as' bs cs same = same

mark-one : (b : Bool) (d : ℕ) → (if b then d ∷ [] else []) ≡ numbers_from d (b ∷ [])
mark-one true d = refl
mark-one false d = refl

held-end : (d : ℕ) (hs : List (Option HeldState)) (h : Option HeldState) → held_from d (hs ++ h ∷ []) ≡ held_from d hs ++ held_at (d + length hs) h
held-end d [] h =
    let e : d ≡ d + 0 = omega arith in
    append-nil (held_at d h) ∙ ap (λ (k : ℕ). held_at k h) e
held-end d (x ∷ xs) h =
    let e : d + 1 + length xs ≡ d + length (x ∷ xs) = omega arith in
    ap (λ (l : List (ℕ × ℕ)). held_at d x ++ l) (held-end (d + 1) xs h ∙ ap (λ (k : ℕ). held_from (d + 1) xs ++ held_at k h) e)
    ∙ sym (append_assoc (held_at d x) (held_from (d + 1) xs) (held_at (d + length (x ∷ xs)) h))

-- how many stores these have
abbrev pub held_number : List (Option HeldState) → ℕ
held_number [] = 0
held_number (h ∷ hs) = held_more h + held_number hs

failed-end : (s : ℕ) (hs : List (Option HeldState)) (h : Option HeldState) → failed_from s (hs ++ h ∷ []) ≡ failed_from s hs ++ failed_from (s + held_number hs) (h ∷ [])
failed-end s [] h = let e : s ≡ s + 0 = omega arith in ap (λ (k : ℕ). failed_from k (h ∷ [])) e
failed-end s (None ∷ xs) h =
    let e : s + held_number xs ≡ s + (0 + held_number xs) = omega arith in
    failed-end s xs h ∙ ap (λ (k : ℕ). failed_from s xs ++ failed_from k (h ∷ [])) e
failed-end s (Some x ∷ xs) h =
    let e : s + 1 + held_number xs ≡ s + (1 + held_number xs) = omega arith in
    mark-step x.failed s (failed_from (s + 1) (xs ++ h ∷ [])) (failed_from (s + 1) xs) (failed_from (s + (1 + held_number xs)) (h ∷ []))
    (failed-end (s + 1) xs h ∙ ap (λ (k : ℕ). failed_from (s + 1) xs ++ failed_from k (h ∷ [])) e)

sinks-end : (d : ℕ) (gone : List ℕ) (once : Bool) (rs : List Bool) (r : Bool) → sinks_from d gone once (rs ++ r ∷ []) ≡ sinks_from d gone once rs ++ numbers_from (d + length rs) (is_sink (d + length rs) gone once r ∷ [])
sinks-end d gone once [] r =
    let e : d ≡ d + 0 = omega arith in
    mark-one (is_sink d gone once r) d ∙ ap (λ (k : ℕ). numbers_from k (is_sink k gone once r ∷ [])) e
sinks-end d gone once (x ∷ xs) r =
    let e : d + 1 + length xs ≡ d + length (x ∷ xs) = omega arith in
    mark-step (is_sink d gone once x) d (sinks_from (d + 1) gone once (xs ++ r ∷ [])) (sinks_from (d + 1) gone once xs) (numbers_from (d + length (x ∷ xs)) (is_sink (d + length (x ∷ xs)) gone once r ∷ []))
    (sinks-end (d + 1) gone once xs r ∙ ap (λ (k : ℕ). sinks_from (d + 1) gone once xs ++ numbers_from k (is_sink k gone once r ∷ [])) e)

number-end : (hs : List (Option HeldState)) (h : Option HeldState) → held_number (hs ++ h ∷ []) ≡ held_number hs + held_more h
number-end [] h = omega arith
number-end (x ∷ xs) h = omega (arith, number-end xs h)

map-end : {A B : Type 0} (f : A → B) (xs : List A) (x : A) → map f (xs ++ x ∷ []) ≡ map f xs ++ f x ∷ []
map-end f xs x = map-append f xs (x ∷ [])

-- The first of them.

module _ {O D : Type 0} (outlet : O → OutletState) (disk : D → DiskState) where
  -- they are finished, and all is noted of them
  pub record FinishedFirst (olds news : List (Buffered O D)) (gone failed : List ℕ) (first : ℕ) (once : Bool) (rests : OutletRests) (store : ℕ) : Type 0 where
    pub finished : List Finished
    pub finish : AllFinish outlet disk olds news finished
    pub held_is : rests.held ≡ held_from 0 (map (held_state disk) news)
    pub sinks_are : rests.sinks ≡ sinks_from 0 gone once (map is_refused finished)
    pub stores_are : rests.stores ≡ failed ++ failed_from first (map (held_state disk) news)
    pub number : store ≡ first + held_number (map (held_state disk) news)

  pub finished-none : (gone failed : List ℕ) (first : ℕ) (once : Bool) (rests : OutletRests) → RestsBegin failed rests → FinishedFirst [] [] gone failed first once rests first
  finished-none gone failed first once rests b = record {
    finished = [];
    finish = tt;
    held_is = b.no_held;
    sinks_are = b.no_sinks;
    stores_are = b.stores_are ∙ sym (append-nil failed);
    number = omega arith;
  }

  all-more : (olds news : List (Buffered O D)) (fs : List Finished) (old new : Buffered O D) (f : Finished) → AllFinish outlet disk olds news fs → FinishesAs outlet disk old new f → IsToldBy disk new
      → AllFinish outlet disk (olds ++ old ∷ []) (news ++ new ∷ []) (fs ++ f ∷ [])
  all-more [] [] [] old new f h one told = (one, told, tt)
  all-more [] [] (g ∷ gs) old new f h one told = absurd h
  all-more [] (n ∷ ns) fs old new f h one told = absurd h
  all-more (o ∷ os) [] fs old new f h one told = absurd h
  all-more (o ∷ os) (n ∷ ns) [] old new f h one told = absurd h
  all-more (o ∷ os) (n ∷ ns) (g ∷ gs) old new f h one told = (h.0, h.1, all-more os ns gs old new f h.2 one told)

  all-many : (olds news : List (Buffered O D)) (fs : List Finished) → AllFinish outlet disk olds news fs → length fs ≡ length news
  all-many [] [] [] h = refl
  all-many [] [] (g ∷ gs) h = absurd h
  all-many [] (n ∷ ns) fs h = absurd h
  all-many (o ∷ os) [] fs h = absurd h
  all-many (o ∷ os) (n ∷ ns) [] h = absurd h
  all-many (o ∷ os) (n ∷ ns) (g ∷ gs) h = ap suc (all-many os ns gs h.2)

  finished-more : (olds news : List (Buffered O D)) (gone failed : List ℕ) (first : ℕ) (once : Bool) (before after : OutletRests) (store more d : ℕ) (old new : Buffered O D) → FinishedFirst olds news gone failed first once before store → d ≡ length news
      → IsFinished outlet disk old new d store gone once before after more → FinishedFirst (olds ++ old ∷ []) (news ++ new ∷ []) gone failed first once after (store + more)
  finished-more olds news gone failed first once before after store more d old new h at one =
      let hs = map (held_state disk) news in
      let state = held_state disk new in
      let rs = map is_refused h.finished in
      let grown : map (held_state disk) (news ++ new ∷ []) ≡ hs ++ state ∷ [] = map-end (held_state disk) news new in
      let here : d ≡ 0 + length hs = (let n = length-map news (held_state disk) in omega (arith, n, at)) in
      let there : d ≡ 0 + length rs = (let n = length-map h.finished is_refused in let m = all-many olds news h.finished h.finish in omega (arith, n, m, at)) in
      record {
        finished = h.finished ++ one.finished ∷ [];
        finish = all-more olds news h.finished old new one.finished h.finish one.finishes one.told;
        held_is = one.held_is ∙ ap (λ (l : List (ℕ × ℕ)). l ++ held_at d state) h.held_is ∙ ap (λ (k : ℕ). held_from 0 hs ++ held_at k state) here ∙ sym (held-end 0 hs state)
            ∙ ap (λ (l : List (Option HeldState)). held_from 0 l) (sym grown);
        sinks_are = one.sinks_are ∙ ap (λ (l : List ℕ). l ++ numbers_from d (is_sink d gone once (is_refused one.finished) ∷ [])) h.sinks_are
            ∙ ap (λ (k : ℕ). sinks_from 0 gone once rs ++ numbers_from k (is_sink k gone once (is_refused one.finished) ∷ [])) there
            ∙ sym (sinks-end 0 gone once rs (is_refused one.finished))
            ∙ ap (λ (l : List Bool). sinks_from 0 gone once l) (sym (map-end is_refused h.finished one.finished));
        stores_are = one.stores_are ∙ ap (λ (l : List ℕ). l ++ failed_from store (state ∷ [])) h.stores_are
            ∙ ap (λ (k : ℕ). (failed ++ failed_from first hs) ++ failed_from k (state ∷ [])) h.number
            ∙ append_assoc failed (failed_from first hs) (failed_from (first + held_number hs) (state ∷ []))
            ∙ ap (λ (l : List ℕ). failed ++ l) (sym (failed-end first hs state))
            ∙ ap (λ (l : List (Option HeldState)). failed ++ failed_from first l) (sym grown);
        number = (let n = h.number in let m = one.more_are in let k = number-end hs state in let j = ap held_number grown in omega (arith, n, m, k, j));
      }

  -- of all of them, the first so many
  pub record FinishedTo (olds mid : List (Buffered O D)) (d : ℕ) (gone failed : List ℕ) (first : ℕ) (once : Bool) (rests : OutletRests) (store : ℕ) : Type 0 where
    pub done : FinishedFirst (take d olds) (take d mid) gone failed first once rests store
    pub rest_stays : drop d mid ≡ drop d olds
    pub stay : map (buffered_of outlet disk) mid ≡ map (buffered_of outlet disk) olds
    pub below : store ≤ first + d

  pub to-none : (olds : List (Buffered O D)) (gone failed : List ℕ) (first : ℕ) (once : Bool) (rests : OutletRests) → RestsBegin failed rests → FinishedTo olds olds 0 gone failed first once rests first
  to-none olds gone failed first once rests b = record { done = finished-none gone failed first once rests b; rest_stays = refl; stay = refl; below = omega arith }

  pub same-many : (olds mid : List (Buffered O D)) → map (buffered_of outlet disk) mid ≡ map (buffered_of outlet disk) olds → length mid ≡ length olds
  same-many olds mid same = sym (length-map mid (buffered_of outlet disk)) ∙ ap length same ∙ length-map olds (buffered_of outlet disk)

  head-is : (x y : Buffered O D) (xs ys : List (Buffered O D)) → x ∷ xs ≡ y ∷ ys → x ≡ y
  head-is x y xs ys e = cc

  tail-is : (x y : Buffered O D) (xs ys : List (Buffered O D)) → x ∷ xs ≡ y ∷ ys → xs ≡ ys
  tail-is x y xs ys e = cc

  drop-at : (xs : List (Buffered O D)) (d : ℕ) (x : Buffered O D) → d < length xs → drop d xs ≡ get_or xs d x ∷ drop (d + 1) xs
  drop-at xs d x low = let e : suc d ≡ d + 1 = omega arith in drop-cons xs d x low ∙ ap (λ (k : ℕ). get_or xs d x ∷ drop k xs) e

  -- one is changed, and is the same outlet
  pub set-same : (xs : List (Buffered O D)) (d : ℕ) (x y : Buffered O D) → x ≡ get_or xs d x → buffered_of outlet disk y ≡ buffered_of outlet disk x → map (buffered_of outlet disk) (slice_set xs d y) ≡ map (buffered_of outlet disk) xs
  set-same xs d x y is same =
      let f = buffered_of outlet disk in
      map-set f xs d y ∙ ap (λ (s : OutletState). set (map f xs) d s) same ∙ sym (map-set f xs d x) ∙ ap (λ (z : Buffered O D). map f (set xs d z)) is ∙ ap (map f) (set-get_or xs d x)

  pub to-more : (olds mid : List (Buffered O D)) (d : ℕ) (gone failed : List ℕ) (first : ℕ) (once : Bool) (before after : OutletRests) (store more : ℕ) (x y : Buffered O D) → FinishedTo olds mid d gone failed first once before store → d < length mid → x ≡ get_or mid d x
      → IsFinished outlet disk x y d store gone once before after more → buffered_of outlet disk y ≡ buffered_of outlet disk x → FinishedTo olds (slice_set mid d y) (d + 1) gone failed first once after (store + more)
  to-more olds mid d gone failed first once before after store more x y h low is one same =
      let many = same-many olds mid h.stay in
      let low' : d < length olds = omega (arith, low, many) in
      let parts = sym (drop-at mid d x low) ∙ h.rest_stays ∙ drop-at olds d x low' in
      let was : get_or olds d x ≡ x = sym (head-is (get_or mid d x) (get_or olds d x) (drop (d + 1) mid) (drop (d + 1) olds) parts) ∙ sym is in
      let rest = tail-is (get_or mid d x) (get_or olds d x) (drop (d + 1) mid) (drop (d + 1) olds) parts in
      let olds_are : take (d + 1) olds ≡ take d olds ++ x ∷ [] = take_more olds d x low' ∙ ap (λ (z : Buffered O D). take d olds ++ z ∷ []) was in
      let news_are : take (d + 1) (slice_set mid d y) ≡ take d mid ++ y ∷ [] = take_more_set mid d y low in
      let at : d ≡ length (take d mid) = sym (length-take-le d mid (omega (arith, low))) in
      let next = finished-more (take d olds) (take d mid) gone failed first once before after store more d x y h.done at one in
      record {
        done = subst (λ (os : List (Buffered O D)). FinishedFirst os (take (d + 1) (slice_set mid d y)) gone failed first once after (store + more)) (sym olds_are)
            (subst (λ (ns : List (Buffered O D)). FinishedFirst (take d olds ++ x ∷ []) ns gone failed first once after (store + more)) (sym news_are) next);
        rest_stays = drop-set-lt (d + 1) mid d y (omega arith) ∙ rest;
        stay = set-same mid d x y is same ∙ h.stay;
        below = (let b = h.below in let m = one.more_are in let few = more-one (held_state disk y) in omega (arith, b, m, few));
      }
    where
      more-one : (s : Option HeldState) → held_more s ≤ 1
      more-one None = omega arith
      more-one (Some held) = omega arith

  -- all of them
  pub to-all : (olds mid : List (Buffered O D)) (d : ℕ) (asked : List Bool) (gone failed : List ℕ) (first : ℕ) (once : Bool) (rests : OutletRests) (store : ℕ) → FinishedTo olds mid d gone failed first once rests store → length mid ≤ d
      → asked ≡ map (λ (way : Buffered O D). is_some (held_state disk way)) mid → AreFinished outlet disk olds mid asked gone failed first once rests
  to-all olds mid d asked gone failed first once rests store h end are =
      let many = same-many olds mid h.stay in
      let all_olds : take d olds ≡ olds = take_all d olds (omega (arith, many, end)) in
      let all_news : take d mid ≡ mid = take_all d mid end in
      let done = subst (λ (os : List (Buffered O D)). FinishedFirst os mid gone failed first once rests store) all_olds (subst (λ (ns : List (Buffered O D)). FinishedFirst (take d olds) ns gone failed first once rests store) all_news h.done) in
      record {
        finished = done.finished;
        finish = done.finish;
        asked_are = are;
        held = done.held_is;
        sinks = done.sinks_are;
        stores = done.stores_are;
      }

-- What was asked for.

pub same-bools : (a b : Bool) → not (beq a b) ≡ false → a ≡ b
same-bools true true e = refl
same-bools true false e = absurd (let no : true ≡ false = e in cc)
same-bools false true e = absurd (let no : true ≡ false = e in cc)
same-bools false false e = refl

pub asked-step : {A : Type 0} (f : A → Bool) (bs : List Bool) (xs : List A) (d : ℕ) (b r : Bool) (x : A) → slice_get bs d ≡ Some b → slice_get xs d ≡ Some x → b ≡ r → r ≡ f x → drop (d + 1) bs ≡ map f (drop (d + 1) xs) → drop d bs ≡ map f (drop d xs)
asked-step f bs xs d b r x at there same has rest =
    drop-get bs d b at ∙ (λ i. (same ∙ has) i ∷ rest i) ∙ ap (map f) (sym (drop-get xs d x there))

pub asked-all : {A : Type 0} (f : A → Bool) (bs : List Bool) (xs : List A) (d : ℕ) → length bs ≤ d → length xs ≤ d → drop d bs ≡ map f (drop d xs)
asked-all f bs xs d low low' = drop_all d bs low ∙ ap (map f) (sym (drop_all d xs low'))
