use Rattle.std.proofs.Common.{◌≡◌, ◌∙◌, ◌<◌, ◌+◌, ◌++◌, [], ◌∷◌, ℕ, List, get_or, length, length-drop, take, take_all, take-append-drop, drop, ap, sym, subst, arith}
use Rattle.std.specs.Prelude.{map, Err}
use Rattle.std.proofs.lemmas.List.{take_more, drop-drop, length-map}
use Rattle.sg_device.specs.Frames.{joined, total}
use Rattle.sg_device.proofs.FrameParts.{frame-fits, frame-there, total-more}
use Rattle.sg_dynfile.specs.Sending.{IsUnderWay, AreReady, SendsFrames}
use Rattle.sg_dynfile.proofs.Going.{filled, some-of, begins, none-ready, ends, ends-early}
use Rattle.sg_dynfile.proofs.sending.send_all.Goals as goal

pub loop-size-init : goal.loop-size-init
loop-size-init g c =
    let opener = g.P.Opener.state c.args.opener.now in
    let cleared = c.clear.new.self in
    record {
      rest = c.bytes-rest.ensures;
      tracks = c.requires.tracks;
      ready = subst (λ (l : List ℕ). AreReady opener l cleared.texts) (sym c.clear.ensures.places) (subst (λ (l : List (List ℕ)). AreReady opener [] l) (sym c.clear.ensures.texts) (none-ready opener));
      way = subst (λ (l : List ℕ). IsUnderWay opener opener [] l cleared.texts) (sym c.clear.ensures.places) (subst (λ (l : List (List ℕ)). IsUnderWay opener opener [] [] l) (sym c.clear.ensures.texts) (begins opener));
      some = λ h. absurd (omega (arith, h));
    }

pub split_at-requires : goal.split_at-requires
split_at-requires g c =
    let frames = c.args.frames.now in
    let sizes = c.sizes-size-items.result.now in
    let i = c.loop-size.size-index in
    let same : length sizes ≡ length (map length frames) = ap (λ (l : List ℕ). length l) c.sizes-size-items.ensures in
    let inside : i < length frames = omega (arith, c.loop-size-test.true, same, length-map frames length) in
    let size : get_or sizes i 0 ≡ get_or (map length frames) i 0 = ap (λ (l : List ℕ). get_or l i 0) c.sizes-size-items.ensures in
    let rest : length c.loop-size.rest.now ≡ length (drop (total (take i (map length frames))) (joined frames)) = ap (λ (l : List ℕ). length l) c.loop-size.invariant.rest in
    omega (arith, size, rest, length-drop (total (take i (map length frames))) (joined frames), frame-fits frames i inside)

pub loop-size-preserved : goal.loop-size-preserved
loop-size-preserved g c =
    let frames = c.args.frames.now in
    let sizes = c.sizes-size-items.result.now in
    let i = c.loop-size.size-index in
    let same : length sizes ≡ length (map length frames) = ap (λ (l : List ℕ). length l) c.sizes-size-items.ensures in
    let inside : i < length frames = omega (arith, c.loop-size-test.true, same, length-map frames length) in
    let before = total (take i (map length frames)) in
    let size = get_or sizes i 0 in
    let is : size ≡ get_or (map length frames) i 0 = ap (λ (l : List ℕ). get_or l i 0) c.sizes-size-items.ensures in
    let sum : before + size ≡ total (take (i + 1) (map length frames)) = omega (arith, is, total-more (map length frames) i (omega (arith, inside, length-map frames length))) in
    let behind : c.split_at.result.1.now ≡ drop (total (take (i + 1) (map length frames))) (joined frames) =
    c.split_at.ensures.back
    ∙ ap (λ (l : List ℕ). drop size l) c.loop-size.invariant.rest
    ∙ drop-drop size before (joined frames)
    ∙ ap (λ (n : ℕ). drop n (joined frames)) sum in
    let front : c.split_at.result.0.now ≡ get_or frames i [] =
    c.split_at.ensures.front
    ∙ ap (λ (l : List ℕ). take size l) c.loop-size.invariant.rest
    ∙ ap (λ (n : ℕ). take n (drop before (joined frames))) is
    ∙ frame-there frames i inside in
    let frame = c.split_at.result.0.now in
    let old = g.P.Opener.state c.args.opener.now in
    let new = g.P.Opener.state c.add_text.new.opener in
    let waiting = c.add_text.new.waiting in
    let frames_are : take i frames ++ frame ∷ [] ≡ take (i + 1) frames = ap (λ (f : List ℕ). take i frames ++ f ∷ []) front ∙ sym (take_more frames i [] inside) in
    let way : IsUnderWay old new (take i frames ++ frame ∷ []) waiting.places.items waiting.texts =
    c.in-Ok.ensures.follows old (take i frames) frame c.loop-size.invariant.way (sym c.parts_of.ensures.parts) (ap (λ (f : List ℕ). f ∷ []) c.parts_of.ensures.whole) in
    record {
      rest = behind;
      tracks = c.in-Ok.ensures.tracks;
      ready = c.in-Ok.ensures.ready;
      way = subst (λ (l : List (List ℕ)). IsUnderWay old new l waiting.places.items waiting.texts) frames_are way;
      some = λ h. some-of waiting.texts c.in-Ok.ensures.some;
    }

pub returns-in-Err-clause-sends : goal.returns-in-Err-clause-sends
returns-in-Err-clause-sends g c =
    let frames = c.args.frames.now in
    let sizes = c.sizes-size-items.result.now in
    let i = c.loop-size.size-index in
    let same : length sizes ≡ length (map length frames) = ap (λ (l : List ℕ). length l) c.sizes-size-items.ensures in
    let inside : i < length frames = omega (arith, c.loop-size-test.true, same, length-map frames length) in
    let before = total (take i (map length frames)) in
    let is : get_or sizes i 0 ≡ get_or (map length frames) i 0 = ap (λ (l : List ℕ). get_or l i 0) c.sizes-size-items.ensures in
    let front : c.split_at.result.0.now ≡ get_or frames i [] =
    c.split_at.ensures.front
    ∙ ap (λ (l : List ℕ). take (get_or sizes i 0) l) c.loop-size.invariant.rest
    ∙ ap (λ (n : ℕ). take n (drop before (joined frames))) is
    ∙ frame-there frames i inside in
    let frame = c.split_at.result.0.now in
    let old = g.P.Opener.state c.args.opener.now in
    let new = g.P.Opener.state c.add_text.new.opener in
    let first : List (List ℕ) = take i frames ++ frame ∷ [] in
    let all : first ++ drop (i + 1) frames ≡ frames =
    ap (λ (l : List (List ℕ)). l ++ drop (i + 1) frames) (ap (λ (f : List ℕ). take i frames ++ f ∷ []) front ∙ sym (take_more frames i [] inside))
    ∙ take-append-drop (i + 1) frames in
    let refused : SendsFrames old new first (Err c.in-Err.refusal) =
    c.in-Err.ensures.follows old (take i frames) frame c.loop-size.invariant.way (sym c.parts_of.ensures.parts) (ap (λ (f : List ℕ). f ∷ []) c.parts_of.ensures.whole) in
    subst (λ (l : List (List ℕ)). SendsFrames old new l (Err c.in-Err.refusal)) all (ends-early old new first (drop (i + 1) frames) c.in-Err.refusal refused)

pub send_waiting-requires-clause-some : goal.send_waiting-requires-clause-some
send_waiting-requires-clause-some g c =
    let frames = c.args.frames.now in
    let same : length c.sizes-size-items.result.now ≡ length (map length frames) = ap (λ (l : List ℕ). length l) c.sizes-size-items.ensures in
    filled c.loop-size.waiting.texts (c.loop-size.invariant.some (omega (arith, c.loop-size-test.false, same, length-map frames length, some-of frames c.requires.some)))

pub returns-clause-sends : goal.returns-clause-sends
returns-clause-sends g c =
    let frames = c.args.frames.now in
    let i = c.loop-size.size-index in
    let same : length c.sizes-size-items.result.now ≡ length (map length frames) = ap (λ (l : List ℕ). length l) c.sizes-size-items.ensures in
    let old = g.P.Opener.state c.args.opener.now in
    let mid = g.P.Opener.state c.loop-size.opener in
    let all : take i frames ≡ frames = take_all i frames (omega (arith, c.loop-size-test.false, same, length-map frames length)) in
    let places = c.loop-size.waiting.places.items in
    let texts = c.loop-size.waiting.texts in
    let way : IsUnderWay old mid frames places texts = subst (λ (l : List (List ℕ)). IsUnderWay old mid l places texts) all c.loop-size.invariant.way in
    ends old mid (g.P.Opener.state c.send_waiting.new.opener) frames places texts c.send_waiting.result c.loop-size.invariant.ready c.send_waiting.ensures.sends way
