-- A turn of a source.
use Rattle.std.proofs.Common.{arith, ◌≡◌, ◌≤◌, ◌+◌, ◌-◌, ℕ, Bool, true, false, List, [], ◌∷◌, ◌++◌, length, take, drop, refl, ap, sym, ◌∙◌, subst, ◌⊎◌, inl, inr, append_assoc, length-append}
use Rattle.std.proofs.lemmas.List.{append-nil, drop_all, take_all}
use Rattle.std.specs.Prelude.{Ok, Err, IsErr, Result, Some, ◌||◌, ◌&&◌, not, nat_lt, nat_le}
use Rattle.std.specs.declared.alloc.AllocError.{AllocError}
use Rattle.sg_msg.specs.declared.offer.Offer.{Offer}
use Rattle.sg_frame.specs.Records.{Record}
use Rattle.sg_counter.specs.Exchanges.{Exchange, Makes, Caller, OfSource}
use Rattle.sg_counter.specs.declared.calls.CoreCall.{CoreCall}
use Rattle.sg_counter.specs.declared.calls.CoreCall.TheVariants.{Credit}
use Rattle.sg_counter.specs.declared.calls.CoreReply.{CoreReply}
use Rattle.sg_counter.specs.declared.calls.CoreReply.TheVariants.{Credit as CreditReply}
use Rattle.sg_counter.specs.declared.answers.Stored.{Stored}
use Rattle.sg_counter.specs.declared.answers.Stored.TheVariants.{Wrote, Unchanged, Broken}
use Rattle.sg_actor.specs.Reading.{one_if}
use Rattle.sg_actor.specs.Sources.{SourceState, AreOf}
use Rattle.sg_actor.specs.Steps.{IsInletOver, PullFails}
use Rattle.sg_actor.specs.Bringing.{exchange, AllBy, admitted_by, admitted_in, carried_by, carried_in, stored_by, has_admitted, stores_in, last_end, HasRefusal, HasSentBack, HadNothing, ReadsOnTurn, is_nothing}
use Rattle.sg_actor.specs.Positions.{is_same_credit, is_due, has_news, after_stores, StoresPosition}
use Rattle.sg_actor.specs.SourceTurns.{ActorState, rests, TakesTurn, bad_after}
use Rattle.sg_actor.specs.declared.position.Position.{Position}
use Rattle.sg_actor.specs.declared.reader.Reader.{Reader}
use Rattle.sg_actor.specs.declared.reading.Doings.{Doings}
use Rattle.sg_actor.specs.declared.settings.SourceSpec.{SourceSpec}
use Rattle.sg_actor.specs.declared.turned.Turned.{Turned}

-- Calls one after another.

pub makes-append : {S : Type 0} (step : S → CoreCall → CoreReply → S → Type 0) (a b c : S) (xs ys : List Exchange) → Makes step a xs b → Makes step b ys c → Makes step a (xs ++ ys) c
makes-append step a b c [] ys h k = subst (λ s. Makes step s ys c) h k
makes-append step a b c (x ∷ xs) ys h k = (h.0, h.1, makes-append step h.0 b c xs ys h.2 k)

pub own-append : (caller : Caller) (xs ys : List Exchange) → AllBy caller xs → AllBy caller ys → AllBy caller (xs ++ ys)
own-append caller [] ys h k = k
own-append caller (x ∷ xs) ys h k = (h.0, own-append caller xs ys h.1 k)

pub admitted-append : (xs ys : List Exchange) → admitted_in (xs ++ ys) ≡ admitted_in xs ++ admitted_in ys
admitted-append [] ys = refl
admitted-append (x ∷ xs) ys =
    ap (λ as'. admitted_by x.call x.reply ++ as') (admitted-append xs ys) ∙ sym (append_assoc (admitted_by x.call x.reply) (admitted_in xs) (admitted_in ys))

all-nil : {A : Type 0} (xs ys : List A) → xs ++ ys ≡ [] → ys ≡ []
all-nil [] ys h = h
all-nil (x ∷ xs) ys h = absurd (let differ : x ∷ (xs ++ ys) ≡ [] = h in cc)

carried-append : (xs ys : List Exchange) → carried_in (xs ++ ys) ≡ carried_in xs ++ carried_in ys
carried-append [] ys = refl
carried-append (x ∷ xs) ys =
    ap (λ as'. carried_by x.call ++ as') (carried-append xs ys) ∙ sym (append_assoc (carried_by x.call) (carried_in xs) (carried_in ys))

-- one call at most, and those behind it bring nothing
carried-behind : (x : Exchange) (xs : List Exchange) → carried_by x.call ++ carried_in xs ≡ [] → carried_in xs ≡ []
carried-behind x xs h = all-nil (carried_by x.call) (carried_in xs) h

carried-drop : (xs : List Exchange) → carried_in xs ≡ [] → carried_in (drop 1 xs) ≡ []
carried-drop [] h = refl
carried-drop (x ∷ xs) h = carried-behind x xs h

second-only : (xs ys : List Exchange) → length xs ≤ 1 → carried_in ys ≡ [] → carried_in (drop 1 (xs ++ ys)) ≡ []
second-only [] ys few none = carried-drop ys none
second-only (x ∷ []) ys few none = none
second-only (x ∷ y ∷ xs) ys few none = absurd (omega arith)

second-none : (xs : List Exchange) → length xs ≤ 1 → carried_in (drop 1 xs) ≡ []
second-none [] few = refl
second-none (x ∷ []) few = refl
second-none (x ∷ y ∷ xs) few = absurd (omega arith)

stores-append : (xs ys : List Exchange) → stores_in (xs ++ ys) ≡ stores_in xs ++ stores_in ys
stores-append [] ys = refl
stores-append (x ∷ xs) ys =
    ap (λ ss. stored_by x.reply ++ ss) (stores-append xs ys) ∙ sym (append_assoc (stored_by x.reply) (stores_in xs) (stores_in ys))

refusal-append : (xs ys : List Exchange) → HasRefusal xs → HasRefusal (xs ++ ys)
refusal-append [] ys h = absurd h
refusal-append (x ∷ xs) ys (inl h) = inl h
refusal-append (x ∷ xs) ys (inr h) = inr (refusal-append xs ys h)

sent-append : (xs ys : List Exchange) → HasSentBack xs → HasSentBack (xs ++ ys)
sent-append [] ys h = absurd h
sent-append (x ∷ xs) ys (inl h) = inl h
sent-append (x ∷ xs) ys (inr h) = inr (sent-append xs ys h)

-- What was done.

rests-is : (p a u s : Bool) → (not (p || a || u) && s) ≡ (s && (not p && not a && not u))
rests-is true a u true = refl
rests-is true a u false = refl
rests-is false true u true = refl
rests-is false true u false = refl
rests-is false false true true = refl
rests-is false false true false = refl
rests-is false false false true = refl
rests-is false false false false = refl

some-up : (b : Bool) → nat_lt 0 (one_if b) ≡ b
some-up true = refl
some-up false = refl

few-up : (b : Bool) → one_if b ≤ 1
few-up true = omega arith
few-up false = omega arith

all-false : (s p a u : Bool) → (s && (not p && not a && not u)) ≡ true → (p ≡ false) × (a ≡ false) × (u ≡ false)
all-false true true a u h = absurd (let differ : false ≡ true = h in cc)
all-false true false true u h = absurd (let differ : false ≡ true = h in cc)
all-false true false false true h = absurd (let differ : false ≡ true = h in cc)
all-false true false false false h = (refl, refl, refl)
all-false false p a u h = absurd (let differ : false ≡ true = h in cc)

pub did-false : (r n : Bool) → (not r || n) ≡ false → (r ≡ true) × (n ≡ false)
did-false true n h = (refl, h)
did-false false n h = absurd (let differ : true ≡ false = h in cc)

stored-empty : (stores : List Stored) (end : ℕ) (old : Position) (broken more : Bool) → old.broken ≡ broken → length stores ≡ one_if (not broken && (true || more)) → has_news stores ≡ false
    → ((after_stores end stores old).broken ≡ true) ⊎ (stores ≡ Unchanged ∷ [])
stored-empty [] end old true more is count quiet = inl is
stored-empty [] end old false more is count quiet = absurd (omega arith)
stored-empty (s ∷ ss) end old true more is count quiet = absurd (omega arith)
stored-empty (Wrote w ∷ []) end old false more is count quiet = absurd (let differ : true ≡ false = quiet in cc)
stored-empty (Unchanged ∷ []) end old false more is count quiet = inr refl
stored-empty (Broken ∷ []) end old false more is count quiet = absurd (let differ : true ≡ false = quiet in cc)
stored-empty (s ∷ t ∷ ss) end old false more is count quiet = absurd (omega arith)

-- A turn for which memory ran out.

pub turn-starved : {S : Type 0} (offers : ℕ → Record → List Offer → Type 0) (dests : ℕ) (spec : SourceSpec) (step : S → CoreCall → CoreReply → S → Type 0) (counter mid counter' : S) (credit : ℕ) (old : ActorState) (b : SourceState)
    (position : Position) (e : AllocError) (r : Result Turned AllocError) → IsErr r → step counter (Credit spec.inlet) (CreditReply credit) mid → position ≡ record old.position { credit = Some credit }
    → ReadsOnTurn {E = AllocError} offers dests spec step mid counter' credit old.source b (Err e) → PullFails old.source.reader.failed b.reader.failed old.source.feed.faults b.feed.faults
    → (old.source.reader.ended ≡ true → b.reader.ended ≡ true)
    → TakesTurn {E = AllocError} offers dests spec step counter counter' old (record { source = b; position = position; bad_frames = old.bad_frames }) r
turn-starved offers dests spec step counter mid counter' credit old b position e (Ok turned) is asked noted h failing ended = absurd (let differ : false ≡ true = is in cc)
turn-starved offers dests spec step counter mid counter' credit old b position e (Err e') is asked noted h failing ended = (
  exchange (Credit spec.inlet) (CreditReply credit) ∷ h.made,
  (
    0,
    (
      credit,
      record {
        makes = (mid, asked, h.brings.makes);
        own = (refl, h.brings.own);
        few = omega (arith, h.few);
        asks = refl;
        ready = h.brings.ready;
        advances = h.brings.advances;
        failing = failing;
        ended = ended;
        pulls = h.pulls;
        admits = h.brings.reads;
        fetched = h.brings.fetched;
        brings = second-none h.made h.few;
        within = h.within;
        empties = tt;
        end = h.brings.end;
        one = omega arith;
        parts = h.brings.parts;
        bad = refl;
        position = noted ∙ ap (λ ss. after_stores b.reader.end ss (record old.position { credit = Some credit })) (sym h.brings.unstored);
        tells = tt;
      },
    ),
  ),
)

-- A turn that came to its end.

stored-of : (spec : SourceSpec) (stores : List Stored) (end : ℕ) (noted : Position) (broken more : Bool) → noted.broken ≡ broken → length stores ≡ one_if (spec.stored && (not broken && (true || more))) → has_news stores ≡ false
    → spec.stored ≡ true → ((after_stores end stores noted).broken ≡ true) ⊎ (stores ≡ Unchanged ∷ [])
stored-of spec stores end noted broken more is count quiet stored =
    stored-empty stores end noted broken more is (count ∙ ap (λ s. one_if (s && (not broken && (true || more)))) stored) quiet

had-nothing : (i credit : ℕ) (made more : List Exchange) (b : SourceState) → HadNothing credit made b.reader
    → HasRefusal (exchange (Credit i) (CreditReply credit) ∷ (made ++ more)) ⊎ IsInletOver b.reader
had-nothing i credit made more b (inl poor) = inl (inl poor)
had-nothing i credit made more b (inr (inl refused)) = inl (inr (refusal-append made more refused))
had-nothing i credit made more b (inr (inr over)) = inr over

emptied : (i credit : ℕ) (made more : List Exchange) (old new : Reader) → ((credit ≡ 0) × (new.held ≡ old.held)) ⊎ ((new.held ≡ []) ⊎ HasSentBack made)
    → ((credit ≡ 0) × (new.held ≡ old.held)) ⊎ ((new.held ≡ []) ⊎ HasSentBack (exchange (Credit i) (CreditReply credit) ∷ (made ++ more)))
emptied i credit made more old new (inl poor) = inl poor
emptied i credit made more old new (inr (inl none)) = inr (inl none)
emptied i credit made more old new (inr (inr sent)) = inr (inr (inr (sent-append made more sent)))

pub turn-done : {S : Type 0} (offers : ℕ → Record → List Offer → Type 0) (dests : ℕ) (spec : SourceSpec) (step : S → CoreCall → CoreReply → S → Type 0) (counter mid third counter' : S) (credit : ℕ) (old : ActorState) (b : SourceState)
    (noted position : Position) (doings : Doings) (same quiet news did : Bool) (bad : ℕ)
    → step counter (Credit spec.inlet) (CreditReply credit) mid → noted ≡ record old.position { credit = Some credit } → same ≡ is_same_credit old.position.credit credit
    → ReadsOnTurn {E = AllocError} offers dests spec step mid third credit old.source b (Ok doings) → quiet ≡ (same && is_nothing doings)
    → StoresPosition spec step third counter' quiet b.reader.end noted position news → did ≡ (not quiet || news) → bad ≡ bad_after old.bad_frames (one_if doings.gave_up)
    → PullFails old.source.reader.failed b.reader.failed old.source.feed.faults b.feed.faults
    → (old.source.reader.ended ≡ true → b.reader.ended ≡ true)
    → TakesTurn {E = AllocError} offers dests spec step counter counter' old (record { source = b; position = position; bad_frames = bad }) (Ok (record { did = did; idle = doings.idle }))
turn-done offers dests spec step counter mid third counter' credit old b noted position doings same quiet news did bad asked noted-is same-is h quiet-is s did-is bad-is failing ended =
    let made : List Exchange = exchange (Credit spec.inlet) (CreditReply credit) ∷ (h.made ++ s.made) in
    let admitted : admitted_in made ≡ admitted_in h.made = admitted-append h.made s.made ∙ ap (λ as'. admitted_in h.made ++ as') s.admits ∙ append-nil (admitted_in h.made) in
    let carried : carried_in made ≡ carried_in h.made = carried-append h.made s.made ∙ ap (λ as'. carried_in h.made ++ as') s.carries ∙ append-nil (carried_in h.made) in
    let stores : stores_in made ≡ stores_in s.made = stores-append h.made s.made ∙ ap (λ ss. ss ++ stores_in s.made) h.brings.unstored in
    let took : has_admitted made ≡ doings.admitted = ap (λ as'. nat_lt 0 (length as')) admitted ∙ h.does.took in
    let new : ActorState = record { source = b; position = position; bad_frames = bad } in
    let rests-eq : rests old new made (one_if doings.gave_up) credit ≡ quiet =
    rw (h.does.brought, took, some-up doings.gave_up, ← same-is) (rests-is doings.pulled doings.admitted doings.gave_up same) ∙ sym quiet-is in
    let due : is_due noted quiet b.reader.end ≡ is_due old.position quiet b.reader.end = ap (λ p. is_due p quiet b.reader.end) noted-is in (
      made,
      (
        one_if doings.gave_up,
        (
          credit,
          record {
            makes = (mid, asked, makes-append step mid third counter' h.made s.made h.brings.makes s.makes);
            own = (refl, own-append (OfSource spec.inlet) h.made s.made h.brings.own s.own);
            few = (let both : length (h.made ++ s.made) ≡ length h.made + length s.made = length-append h.made s.made in omega (arith, h.few, s.few));
            asks = refl;
            ready = h.brings.ready;
            advances = h.brings.advances;
            failing = failing;
            ended = ended;
            pulls = h.pulls;
            admits = (λ done before read.
                let at-b = h.brings.reads done before read in
                (at-b.0, (subst (λ as'. AreOf offers spec at-b.0 as') (sym admitted) at-b.1.0, at-b.1.1)));
            fetched = rw admitted h.brings.fetched;
            brings = second-only h.made s.made h.few s.carries;
            within = rw carried h.within;
            empties = emptied spec.inlet credit h.made s.made old.source.reader b.reader h.empties;
            end = h.brings.end ∙ ap (λ as'. last_end old.source.reader.end as') (sym admitted);
            one = few-up doings.gave_up;
            parts = h.brings.parts;
            bad = bad-is;
            position = s.position ∙ ap (λ ss. after_stores b.reader.end ss noted) (sym stores) ∙ ap (λ p. after_stores b.reader.end (stores_in made) p) noted-is;
            tells = record {
              did = did-is ∙ ap (λ q. not q || news) (sym rests-eq) ∙ ap (λ n. not (rests old new made (one_if doings.gave_up) credit) || n) (s.tells ∙ ap has_news (sym stores));
              idle = sym h.does.idled;
              asks = ap length stores ∙ s.asks ∙ ap (λ d. one_if (spec.stored && d)) due ∙ ap (λ q. one_if (spec.stored && is_due old.position q b.reader.end)) (sym rests-eq);
              empty = (λ d i.
                  let dn = did-false quiet news (sym did-is ∙ d) in
                  let none = all-false same doings.pulled doings.admitted doings.gave_up (sym quiet-is ∙ dn.0) in
                  record {
                    over = had-nothing spec.inlet credit h.made s.made b (h.does.nothing none.0 none.1 none.2 i);
                    stored = (λ st.
                        let count : length (stores_in s.made) ≡ one_if (spec.stored && (not noted.broken && (true || nat_le 262144 (b.reader.end - noted.asked)))) =
                        s.asks ∙ ap (λ q. one_if (spec.stored && is_due noted q b.reader.end)) dn.0 in
                        subst (λ ss. ((position.broken) ≡ true) ⊎ (ss ≡ Unchanged ∷ [])) (sym stores)
                        (subst (λ p. (p.broken ≡ true) ⊎ (stores_in s.made ≡ Unchanged ∷ [])) (sym s.position)
                        (stored-of spec (stores_in s.made) b.reader.end noted noted.broken (nat_le 262144 (b.reader.end - noted.asked)) refl count (sym s.tells ∙ dn.1) st)));
                  });
            };
          },
        ),
      ),
    )

-- What a slice of the whole buffer leaves of it.
pub buffer-is : (old new : List ℕ) (len : ℕ) → length new ≡ length old → len ≡ length old → take len (new ++ drop (length new) old) ≡ new
buffer-is old new len same is =
    let none : drop (length new) old ≡ [] = drop_all (length new) old (omega arith) in
    ap (λ xs. take len (new ++ xs)) none ∙ ap (λ xs. take len xs) (append-nil new) ∙ take_all len new (omega arith)

pub not-resting : (r n : Bool) → r ≡ false → not r ≡ (not r || n)
not-resting true n h = absurd (let differ : true ≡ false = h in cc)
not-resting false n h = refl

pub resting : (r n : Bool) → r ≡ true → n ≡ (not r || n)
resting true n h = refl
resting false n h = absurd (let differ : false ≡ true = h in cc)
