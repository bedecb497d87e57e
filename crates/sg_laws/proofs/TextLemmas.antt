-- What is kept of offers is their texts, less the dropped ones.
use Rattle.std.proofs.Common.{◌≡◌, ℕ, ◌+◌, List, [], ◌∷◌, ◌++◌, length, length-append, Some, Bool, true, false, not, ◌&&◌, refl, sym, ap, ◌∙◌, arith, map, append_assoc, if◌then◌else◌, suc}
use Rattle.std.specs.Prelude.{◌==◌, slice_get}
use Rattle.std.proofs.lemmas.List.{map-append}
use Rattle.std.proofs.lemmas.Option.{none-some}
use Rattle.sg_msg.specs.Message.{Content}
use Rattle.sg_msg.specs.declared.offer.Offer.{Offer}
use Rattle.sg_frame.specs.Records.{Record}
use Rattle.sg_machine.specs.declared.event.Admission.{Admission}
use Rattle.sg_machine.specs.declared.event.Verdict.{Verdict}
use Rattle.sg_machine.specs.declared.state.Dest.{Dest}
use Rattle.sg_machine.specs.Verdicts.{Claim, claims_in, claims_from, judged, judged_at, take_claim}
use Rattle.sg_machine.specs.Runs.{BufferedEntry}
use Rattle.sg_machine.specs.Counts.{is_dropped, kept_offers, flow_drops_of}
use Rattle.sg_machine.proofs.FlowLemmas.{then-some}
use Rattle.sg_actor.specs.Sources.{AreOf}
use Rattle.sg_actor.specs.declared.settings.SourceSpec.{SourceSpec}
use Rattle.sg_laws.specs.Texts.{SentText, text_of, texts_to, GivesTexts, less, AreTextsUnflowed, dropped_of}

-- the texts of claims, and of records
abbrev pub claim_texts : (ℕ → Content → List ℕ) → ℕ → List Claim → List SentText
claim_texts frame d [] = []
claim_texts frame d (c ∷ cs) = if c.offer.dest == d then text_of frame c.offer ∷ claim_texts frame d cs else claim_texts frame d cs

abbrev pub texts_in : (ℕ → Content → List ℕ) → ℕ → List Admission → List SentText
texts_in frame d [] = []
texts_in frame d (a ∷ rest) = texts_to frame d a.offers ++ texts_in frame d rest

pub texts-append : (frame : ℕ → Content → List ℕ) (d : ℕ) (xs ys : List Admission) → texts_in frame d (xs ++ ys) ≡ texts_in frame d xs ++ texts_in frame d ys
texts-append frame d [] ys = refl
texts-append frame d (x ∷ xs) ys = ap (λ ts. texts_to frame d x.offers ++ ts) (texts-append frame d xs ys) ∙ sym (append_assoc (texts_to frame d x.offers) (texts_in frame d xs) (texts_in frame d ys))

-- one offer more
texts-one : (b : Bool) (frame : ℕ → Content → List ℕ) (d : ℕ) (o : Offer) (os : List Offer) (xs ys : List SentText) → (o.dest == d) ≡ b → xs ≡ texts_to frame d os ++ ys
    → (if o.dest == d then text_of frame o ∷ xs else xs) ≡ texts_to frame d (o ∷ os) ++ ys
texts-one true frame d o os xs ys h e = rw h (ap (λ ts. text_of frame o ∷ ts) e)
texts-one false frame d o os xs ys h e = rw h e

claim-texts-in : (frame : ℕ → Content → List ℕ) (d place end : ℕ) (os : List Offer) (cs : List Claim) → claim_texts frame d (claims_in place end os ++ cs) ≡ texts_to frame d os ++ claim_texts frame d cs
claim-texts-in frame d place end [] cs = refl
claim-texts-in frame d place end (o ∷ os) cs =
    texts-one (o.dest == d) frame d o os (claim_texts frame d (claims_in place end os ++ cs)) (claim_texts frame d cs) refl (claim-texts-in frame d place end os cs)

pub texts-claims : (frame : ℕ → Content → List ℕ) (d place : ℕ) (records : List Admission) → claim_texts frame d (claims_from place records) ≡ texts_in frame d records
texts-claims frame d place [] = refl
texts-claims frame d place (r ∷ rs) = claim-texts-in frame d place r.end r.offers (claims_from (place + 1) rs) ∙ ap (λ ts. texts_to frame d r.offers ++ ts) (texts-claims frame d (place + 1) rs)

-- Verdicts.

-- each claim has its verdict
pub judged-lengths : (i next : ℕ) (failing : List ℕ) (ds : List Dest) (failed : List ℕ) (cs : List Claim) (vs : List Verdict) (x : List ℕ) → judged i next failing ds failed cs vs ≡ Some x → length cs ≡ length vs
judged-lengths i next failing ds failed [] [] x h = refl
judged-lengths i next failing ds failed [] (v ∷ vs) x h = absurd (none-some x h)
judged-lengths i next failing ds failed (c ∷ cs) [] x h = absurd (none-some x h)
judged-lengths i next failing ds failed (c ∷ cs) (v ∷ vs) x h =
    let parts = then-some (judged_at (slice_get ds c.offer.dest) failing failed c.offer v) (λ f. judged i next failing (take_claim i next ds c v) f cs vs) x h in
    ap suc (judged-lengths i next failing (take_claim i next ds c v) parts.0 cs vs x parts.2)

pub suc-same : (a b : ℕ) → suc a ≡ suc b → a ≡ b
suc-same a b h = omega (arith, h)

-- what is kept of the offers to d, which of them are dropped, and their texts
pub record TookTexts (frame : ℕ → Content → List ℕ) (d : ℕ) (kept : List BufferedEntry) (dropped : List Bool) (texts : List SentText) : Type 0 where
  pub each : length dropped ≡ length texts
  pub unflowed : AreTextsUnflowed dropped texts
  pub frames : map (λ (k : BufferedEntry). frame d k.message) kept ≡ map (λ t. t.frame) (less dropped texts)

pub took-none : (frame : ℕ → Content → List ℕ) (d : ℕ) → TookTexts frame d [] [] []
took-none frame d = record { each = refl; unflowed = tt; frames = refl }

-- one claim more, by whether it is one to d, and whether it is dropped
abbrev kept_one : Bool → Bool → BufferedEntry → List BufferedEntry → List BufferedEntry
kept_one b dropped k ks = if b && not dropped then k ∷ ks else ks

took-one : (b dropped : Bool) (frame : ℕ → Content → List ℕ) (d : ℕ) (k : BufferedEntry) (o : Offer) (ks : List BufferedEntry) (ms : List Bool) (ts : List SentText) → (b ≡ true → o.dest ≡ d) → k.message ≡ o.message
    → (dropped ≡ true → o.flow ≡ false) → TookTexts frame d ks ms ts → TookTexts frame d (kept_one b dropped k ks) (if b then dropped ∷ ms else ms) (if b then text_of frame o ∷ ts else ts)
took-one false dropped frame d k o ks ms ts same message flow t = t
took-one true true frame d k o ks ms ts same message flow t = record { each = ap suc t.each; unflowed = (λ h. flow refl, t.unflowed); frames = t.frames }
took-one true false frame d k o ks ms ts same message flow t =
    let one : frame d k.message ≡ frame o.dest o.message = rw (message, same refl) refl in
    record {
      each = ap suc t.each;
      unflowed = (λ h. absurd (let wrong : false ≡ true = h in cc), t.unflowed);
      frames = ap (λ f. f ∷ map (λ (k : BufferedEntry). frame d k.message) ks) one ∙ ap (λ fs. frame o.dest o.message ∷ fs) t.frames;
    }

equal-true : (a b : ℕ) → (a == b) ≡ true → a ≡ b
equal-true a b h = grind arith

flow-of : (flow dropped : Bool) (n : ℕ) → (if flow && dropped then 1 else 0) + n ≡ 0 → (dropped ≡ true → flow ≡ false) × (n ≡ 0)
flow-of true true n h = absurd (omega (arith, h))
flow-of true false n h = (λ e. absurd (let wrong : false ≡ true = e in cc), omega (arith, h))
flow-of false dropped n h = (λ e. refl, omega (arith, h))

pub took-claims : (frame : ℕ → Content → List ℕ) (d i : ℕ) (cs : List Claim) (vs : List Verdict) → length cs ≡ length vs → flow_drops_of cs vs ≡ 0
    → TookTexts frame d (kept_offers d i cs vs) (dropped_of d cs vs) (claim_texts frame d cs)
took-claims frame d i [] vs h f = took-none frame d
took-claims frame d i (c ∷ cs) [] h f = absurd (omega (arith, h))
took-claims frame d i (c ∷ cs) (v ∷ vs) h f =
    let o = c.offer in
    let parts = flow-of o.flow (is_dropped v) (flow_drops_of cs vs) f in
    took-one (o.dest == d) (is_dropped v) frame d (record { inlet = i; end = c.end; flow = o.flow; message = o.message }) o (kept_offers d i cs vs) (dropped_of d cs vs) (claim_texts frame d cs) (equal-true o.dest d) refl parts.0
    (took-claims frame d i cs vs (suc-same (length cs) (length vs) h) parts.1)

-- Joined.

less-one : (m : Bool) (t : SentText) (xs ys zs : List SentText) → xs ≡ ys ++ zs → (if m then xs else t ∷ xs) ≡ (if m then ys else t ∷ ys) ++ zs
less-one true t xs ys zs h = h
less-one false t xs ys zs h = ap (λ ts. t ∷ ts) h

less-append : (ms ns : List Bool) (ts us : List SentText) → length ms ≡ length ts → less (ms ++ ns) (ts ++ us) ≡ less ms ts ++ less ns us
less-append [] ns [] us h = refl
less-append [] ns (t ∷ ts) us h = absurd (omega (arith, h))
less-append (m ∷ ms) ns [] us h = absurd (omega (arith, h))
less-append (m ∷ ms) ns (t ∷ ts) us h = less-one m t (less (ms ++ ns) (ts ++ us)) (less ms ts) (less ns us) (less-append ms ns ts us (suc-same (length ms) (length ts) h))

unflowed-append : (ms ns : List Bool) (ts us : List SentText) → length ms ≡ length ts → AreTextsUnflowed ms ts → AreTextsUnflowed ns us → AreTextsUnflowed (ms ++ ns) (ts ++ us)
unflowed-append [] ns [] us h a b = b
unflowed-append [] ns (t ∷ ts) us h a b = absurd (omega (arith, h))
unflowed-append (m ∷ ms) ns [] us h a b = absurd (omega (arith, h))
unflowed-append (m ∷ ms) ns (t ∷ ts) us h a b = (a.0, unflowed-append ms ns ts us (suc-same (length ms) (length ts) h) a.1 b)

length-two : {A B : Type 0} (ms ns : List A) (ts us : List B) → length ms ≡ length ts → length ns ≡ length us → length (ms ++ ns) ≡ length (ts ++ us)
length-two ms ns ts us a b = length-append ms ns ∙ ap (λ n. n + length ns) a ∙ ap (λ n. length ts + n) b ∙ sym (length-append ts us)

pub took-then : (frame : ℕ → Content → List ℕ) (d : ℕ) (ks ls : List BufferedEntry) (ms ns : List Bool) (ts us : List SentText) → TookTexts frame d ks ms ts → TookTexts frame d ls ns us → TookTexts frame d (ks ++ ls) (ms ++ ns) (ts ++ us)
took-then frame d ks ls ms ns ts us a b =
    let f : BufferedEntry → List ℕ = λ k. frame d k.message in
    let g : SentText → List ℕ = λ t. t.frame in
    record {
      each = length-two ms ns ts us a.each b.each;
      unflowed = unflowed-append ms ns ts us a.each a.unflowed b.unflowed;
      frames = map-append f ks ls ∙ ap (λ fs. fs ++ map f ls) a.frames ∙ ap (λ fs. map g (less ms ts) ++ fs) b.frames ∙ sym (map-append g (less ms ts) (less ns us)) ∙ ap (map g) (sym (less-append ms ns ts us a.each));
    }

-- Records.

pub gives-texts : (offers : ℕ → Record → List Offer → Type 0) (frame : ℕ → Content → List ℕ) (spec : SourceSpec) (d : ℕ) (rs : List Record) (admitted : List Admission) → AreOf offers spec rs admitted
    → GivesTexts offers frame spec.inlet d rs (texts_in frame d admitted)
gives-texts offers frame spec d [] [] are = refl
gives-texts offers frame spec d [] (a ∷ rest) are = absurd are
gives-texts offers frame spec d (r ∷ rs) [] are = absurd are
gives-texts offers frame spec d (r ∷ rs) (a ∷ rest) are = (a.offers, (texts_in frame d rest, (are.0.offered, (gives-texts offers frame spec d rs rest are.1, refl))))
