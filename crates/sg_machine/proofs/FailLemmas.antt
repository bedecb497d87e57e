-- No more stores fail in an Admit than there are destinations.
use Rattle.std.proofs.Common.{◌≡◌, ◌≢◌, ℕ, ◌+◌, ◌<◌, ◌≤◌, List, [], ◌∷◌, ◌++◌, length, take, drop, Some, None, Option, Bool, true, false, not, ◌||◌, refl, sym, ap, ◌∙◌, arith, suc, zero, slice_get, if◌then◌else◌, inl, inr, ◌⊎◌}
use Rattle.std.specs.Prelude.{◌==◌, option_and_then}
use Rattle.std.specs.Option.{option_map}
use Rattle.std.proofs.lemmas.List.{length-append, length_push}
use Rattle.sg_list.specs.Lists.{change}
use Rattle.sg_list.proofs.ListLemmas.{some-same, length-change}
use Rattle.sg_msg.specs.declared.offer.Offer.{Offer}
use Rattle.sg_machine.specs.declared.event.Admission.{Admission}
use Rattle.sg_machine.specs.declared.event.Verdict.{Verdict}
use Rattle.sg_machine.specs.declared.event.Verdict.TheVariants.{Queued, Spooled, Waits, DroppedFull, DroppedDisk}
use Rattle.sg_machine.specs.declared.setup.BufferSetup.{BufferSetup}
use Rattle.sg_machine.specs.declared.running.DestRun.{DestRun}
use Rattle.sg_machine.specs.declared.running.Run.{Run}
use Rattle.sg_machine.specs.Verdicts.{is_listed, same_verdict}
use Rattle.sg_machine.specs.Legal.{works, is_same_list}
use Rattle.sg_machine.specs.Needs.{store_number}
use Rattle.sg_machine.specs.Turns.{disk_turn, fails_turn, judged_turn, judged_run, offered_run, offered_runs, judged_runs, begun_in, record_taken, record_turn, record_turns}
use Rattle.sg_machine.specs.Steps.{if_failed}
use Rattle.sg_machine.proofs.RunLemmas.{both-true}
use Rattle.sg_machine.proofs.OfferLemmas.{is_same_list-true}
use Rattle.sg_machine.proofs.TakeLemmas.{then-some-of}

abbrev one_if : Bool → ℕ
one_if b = if b then 1 else 0

-- the disk-buffers whose stores haven't failed
abbrev unfailed : List ℕ → List DestRun → ℕ
unfailed failed [] = 0
unfailed failed (d ∷ ds) = one_if (works failed (store_number d)) + unfailed failed ds

one-few : (b : Bool) → one_if b ≤ 1
one-few true = omega arith
one-few false = omega arith

unfailed-few : (failed : List ℕ) (ds : List DestRun) → unfailed failed ds ≤ length ds
unfailed-few failed [] = omega arith
unfailed-few failed (d ∷ ds) = let rest = unfailed-few failed ds in let one = one-few (works failed (store_number d)) in omega arith

offered-store : (i number : ℕ) (o : Offer) (v : Verdict) (d : DestRun) → store_number (offered_run i number o v d) ≡ store_number d
offered-store i number o Queued d = refl
offered-store i number o Spooled d = refl
offered-store i number o Waits d = refl
offered-store i number o DroppedFull d = refl
offered-store i number o DroppedDisk d = refl

unfailed-offered : (failed : List ℕ) (i number : ℕ) (o : Offer) (v : Verdict) (ds : List DestRun) (k : ℕ) → unfailed failed (change ds k (offered_run i number o v)) ≡ unfailed failed ds
unfailed-offered failed i number o v [] k = refl
unfailed-offered failed i number o v (d ∷ ds) zero = ap (λ s. one_if (works failed s) + unfailed failed ds) (offered-store i number o v d)
unfailed-offered failed i number o v (d ∷ ds) (suc k) = ap (λ n. one_if (works failed (store_number d)) + n) (unfailed-offered failed i number o v ds k)

-- one more store has failed

pub or-assoc : (a b c : Bool) → (a || (b || c)) ≡ ((a || b) || c)
or-assoc true b c = refl
or-assoc false b c = refl

less-if : (a b : Bool) → one_if (not (a || b)) ≤ one_if (not a)
less-if true b = omega arith
less-if false true = omega arith
less-if false false = omega arith

listed-more : (n m : ℕ) (xs : List ℕ) → is_listed n (xs ++ m ∷ []) ≡ (is_listed n xs || (m == n))
listed-more n m [] = grind arith
listed-more n m (x ∷ xs) = rw (listed-more n m xs) (or-assoc (x == n) (is_listed n xs) (m == n))

works-less : (failed : List ℕ) (s : ℕ) (store : Option ℕ) → one_if (works (failed ++ s ∷ []) store) ≤ one_if (works failed store)
works-less failed s None = omega arith
works-less failed s (Some t) = rw (listed-more t s failed) (less-if (is_listed t failed) (s == t))

unfailed-less : (failed : List ℕ) (s : ℕ) (ds : List DestRun) → unfailed (failed ++ s ∷ []) ds ≤ unfailed failed ds
unfailed-less failed s [] = omega arith
unfailed-less failed s (d ∷ ds) = let one = works-less failed s (store_number d) in let rest = unfailed-less failed s ds in omega arith

works-once : (failed : List ℕ) (b : BufferSetup) (d : DestRun) → d.setup.buffer ≡ Some b → is_listed b.store failed ≡ false → one_if (works (failed ++ b.store ∷ []) (store_number d)) + 1 ≤ one_if (works failed (store_number d))
works-once failed b d q h =
    let here : (b.store == b.store) ≡ true = grind arith in
    rw (q, listed-more b.store b.store failed, h, here) (omega arith)

unfailed-once : (failed : List ℕ) (b : BufferSetup) (ds : List DestRun) (k : ℕ) (d : DestRun) → slice_get ds k ≡ Some d → d.setup.buffer ≡ Some b → is_listed b.store failed ≡ false → unfailed (failed ++ b.store ∷ []) ds + 1 ≤ unfailed failed ds
unfailed-once failed b [] k d g q h = let wrong : None ≡ Some d = g in cc
unfailed-once failed b (x ∷ ds) zero d g q h =
    let buffer : x.setup.buffer ≡ Some b = ap (λ (y : DestRun). y.setup.buffer) (some-same x d g) ∙ q in
    let one = works-once failed b x buffer h in
    let rest = unfailed-less failed b.store ds in
    omega arith
unfailed-once failed b (x ∷ ds) (suc k) d g q h =
    let one = works-less failed b.store (store_number x) in
    let rest = unfailed-once failed b ds k d g q h in
    omega arith

-- Offers.

not-spooled : (b : Bool) → same_verdict Spooled (if b then Waits else DroppedDisk) ≡ false
not-spooled true = refl
not-spooled false = refl

works-yet : (buffer : BufferSetup) (dest : DestRun) (broken : Bool) (o : Offer) → same_verdict Spooled (disk_turn buffer dest broken o) ≡ true → broken ≡ false
works-yet buffer dest true o h = let wrong : false ≡ true = sym (not-spooled o.flow) ∙ h in cc
works-yet buffer dest false o h = refl

-- a judgement leaves the stores as they are, or one more has failed, which is a disk-buffer's that worked
abbrev Judges : DestRun → List ℕ → List ℕ → Type 0
Judges d failed z = (z ≡ failed) ⊎ ((b : BufferSetup) × (d.setup.buffer ≡ Some b) × (is_listed b.store failed ≡ false) × (z ≡ failed ++ b.store ∷ []))

kept-if : (p : Bool) (x z : List ℕ) → (if p then Some x else None) ≡ Some z → z ≡ x
kept-if true x z h = sym (some-same x z h)
kept-if false x z h = let wrong : None ≡ Some z = h in cc

judges-disk : (b : BufferSetup) (d : DestRun) (failing failed : List ℕ) (o : Offer) (v : Verdict) (z : List ℕ) (fails : Bool) → d.setup.buffer ≡ Some b → fails_turn b d failing failed o ≡ fails
    → judged_turn (Some b) d failing failed o v ≡ Some z → Judges d failed z
judges-disk b d failing failed o v z true q f j =
    let spools = (both-true (is_listed b.store failing) (same_verdict Spooled (disk_turn b d (is_listed b.store failed) o)) f).1 in
    let yet = works-yet b d (is_listed b.store failed) o spools in
    let kept : (if same_verdict v (disk_turn b d true o) then Some (failed ++ b.store ∷ []) else None) ≡ Some z = rw f at j in
    inr (b, q, yet, kept-if (same_verdict v (disk_turn b d true o)) (failed ++ b.store ∷ []) z kept)
judges-disk b d failing failed o v z false q f j =
    let kept : (if same_verdict v (disk_turn b d (is_listed b.store failed) o) then Some failed else None) ≡ Some z = rw f at j in
    inl (kept-if (same_verdict v (disk_turn b d (is_listed b.store failed) o)) failed z kept)

judges-by : (buffer : Option BufferSetup) (d : DestRun) (failing failed : List ℕ) (o : Offer) (v : Verdict) (z : List ℕ) → d.setup.buffer ≡ buffer → judged_turn buffer d failing failed o v ≡ Some z → Judges d failed z
judges-by None d failing failed o v z q j = inl (kept-if _ failed z j)
judges-by (Some b) d failing failed o v z q j = judges-disk b d failing failed o v z (fails_turn b d failing failed o) q refl j

few-by : (d : DestRun) (ds : List DestRun) (k : ℕ) (failed z : List ℕ) → slice_get ds k ≡ Some d → Judges d failed z → length z + unfailed z ds ≤ length failed + unfailed failed ds
few-by d ds k failed z g (inl e) = rw e (omega arith)
few-by d ds k failed z g (inr p) =
    let once = unfailed-once failed p.0 ds k d g p.1 p.2 in
    let len = length_push failed (p.0).store in
    rw p.3 (omega arith)

few-at : (o : Option DestRun) (ds : List DestRun) (k : ℕ) (failing failed : List ℕ) (offer : Offer) (v : Verdict) (z : List ℕ) → slice_get ds k ≡ o → judged_run o failing failed offer v ≡ Some z
    → length z + unfailed z ds ≤ length failed + unfailed failed ds
few-at None ds k failing failed offer v z g j = let wrong : None ≡ Some z = j in cc
few-at (Some d) ds k failing failed offer v z g j = few-by d ds k failed z g (judges-by d.setup.buffer d failing failed offer v z refl j)

few-offers : (i number : ℕ) (failing : List ℕ) (ds : List DestRun) (failed : List ℕ) (os : List Offer) (vs : List Verdict) (z : List ℕ) → judged_runs i number failing ds failed os vs ≡ Some z
    → length z + unfailed z (offered_runs i number ds os vs) ≤ length failed + unfailed failed ds
few-offers i number failing ds failed [] [] z j = rw (some-same failed z j) (omega arith)
few-offers i number failing ds failed [] (v ∷ vs) z j = let wrong : None ≡ Some z = j in cc
few-offers i number failing ds failed (o ∷ os) [] z j = let wrong : None ≡ Some z = j in cc
few-offers i number failing ds failed (o ∷ os) (v ∷ vs) z j =
    let more = change ds o.dest (offered_run i number o v) in
    let p = then-some-of (judged_run (slice_get ds o.dest) failing failed o v) (λ f. judged_runs i number failing more f os vs) z j in
    let one = few-at (slice_get ds o.dest) ds o.dest failing failed o v p.0 refl p.1 in
    let same = unfailed-offered p.0 i number o v ds o.dest in
    let rest = few-offers i number failing more p.0 os vs z p.2 in
    omega arith

length-offered : (i number : ℕ) (ds : List DestRun) (os : List Offer) (vs : List Verdict) → length (offered_runs i number ds os vs) ≡ length ds
length-offered i number ds [] vs = refl
length-offered i number ds (o ∷ os) [] = refl
length-offered i number ds (o ∷ os) (v ∷ vs) = length-offered i number (change ds o.dest (offered_run i number o v)) os vs ∙ length-change ds o.dest (offered_run i number o v)

-- Records.

mapped-of : (o : Option (List ℕ)) (f : List ℕ → Run) (y : Run) → option_map f o ≡ Some y → (x : List ℕ) × (o ≡ Some x) × (f x ≡ y)
mapped-of None f y h = let wrong : None ≡ Some y = h in cc
mapped-of (Some x) f y h = (x, refl, some-same (f x) y h)

no-run : (x : Run) → None ≡ Some x → ⊥
no-run x h = cc

more-verdicts : (i : ℕ) (failing : List ℕ) (run : Run) (v : Verdict) (vs : List Verdict) → record_turns i failing run [] (v ∷ vs) ≡ None
more-verdicts i failing run v vs = let z : (suc (length vs) == 0) ≡ false = grind arith in rw z refl

few-record : (i : ℕ) (failing : List ℕ) (run new : Run) (r : Admission) (vs : List Verdict) → record_turn i failing run r vs ≡ Some new → length new.failed + unfailed new.failed new.dests ≤ length run.failed + unfailed run.failed run.dests
few-record i failing run new r vs h =
    let p = mapped-of (judged_runs i (begun_in run.sources i) failing run.dests run.failed r.offers vs) (record_taken i run r vs) new h in
    let few = few-offers i (begun_in run.sources i) failing run.dests run.failed r.offers vs p.0 p.1 in
    rw (← p.2) few

few-records : (i : ℕ) (failing : List ℕ) (run new : Run) (rs : List Admission) (vs : List Verdict) → record_turns i failing run rs vs ≡ Some new → length new.failed + unfailed new.failed new.dests ≤ length run.failed + unfailed run.failed run.dests
few-records i failing run new [] [] h = rw (some-same run new h) (omega arith)
few-records i failing run new [] (v ∷ vs) h = absurd (no-run new (sym (more-verdicts i failing run v vs) ∙ h))
few-records i failing run new (r ∷ rs) vs h =
    let p = then-some-of (record_turn i failing run r (take (length r.offers) vs)) (λ t. record_turns i failing t rs (drop (length r.offers) vs)) new h in
    let one = few-record i failing run p.0 r (take (length r.offers) vs) p.1 in
    let rest = few-records i failing p.0 new rs (drop (length r.offers) vs) p.2 in
    omega arith

failed-if : (b : Bool) (run new : Run) (xs : List ℕ) → is_same_list xs new.failed ≡ b → length xs ≢ length new.failed → if_failed xs new ≡ None
failed-if true run new xs e ne = absurd (ne (ap length (is_same_list-true xs new.failed e)))
failed-if false run new xs e ne = rw e refl

too-many-of : (i : ℕ) (failing : List ℕ) (run : Run) (rs : List Admission) (vs : List Verdict) (o : Option Run) → record_turns i failing run rs vs ≡ o → length run.dests < length failing → option_and_then (if_failed (run.failed ++ failing)) o ≡ None
too-many-of i failing run rs vs None h l = refl
too-many-of i failing run rs vs (Some new) h l =
    let few = few-records i failing run new rs vs h in
    let most = unfailed-few run.failed run.dests in
    let len = length-append run.failed failing in
    failed-if (is_same_list (run.failed ++ failing) new.failed) run new (run.failed ++ failing) refl (omega arith)

-- where more stores are said to fail than there are destinations, the act isn't legal
pub too-many : (i : ℕ) (failing : List ℕ) (run : Run) (rs : List Admission) (vs : List Verdict) → length run.dests < length failing → option_and_then (if_failed (run.failed ++ failing)) (record_turns i failing run rs vs) ≡ None
too-many i failing run rs vs l = too-many-of i failing run rs vs (record_turns i failing run rs vs) refl l
