use Rattle.std.proofs.Common.{◌≡◌, ◌∙◌, ◌<◌, ◌+◌, ◌++◌, [], ◌∷◌, ℕ, List, get_or, get_or-take, length, length-take, length-drop, take, drop, ap, sym, arith, rules}
use Rattle.std.proofs.lemmas.List.{drop-drop, length-map, append_assoc}
use Rattle.std.specs.Prelude.{map}
use Rattle.sg_device.specs.Frames.{joined, total}
use Rattle.sg_device.specs.Paths.{PathText}
use Rattle.sg_device.proofs.FrameParts.{frame-fits, frame-there, total-more}
use Rattle.sg_by_path.specs.Each.{under_places}
use Rattle.sg_by_path.proofs.EachLemmas.{text_at, more-places}
use Rattle.sg_memory.specs.Paths.{text_of}
use Rattle.sg_memory.proofs.paths.each_first.Goals as goal

pub split_at-requires : goal.split_at-requires
split_at-requires c =
    let frames = c.args.texts.now in
    let sizes = c.sizes.result.now in
    let i = c.loop-size.size-index in
    let near : i < c.args.wanted = omega (arith, length-take c.args.wanted sizes, c.loop-size-test.true) in
    let inside : i < length frames = omega (arith, near, c.requires.few) in
    let size : get_or (take c.args.wanted sizes) i 0 ≡ get_or (map length frames) i 0 = get_or-take c.args.wanted sizes i 0 near ∙ ap (λ (l : List ℕ). get_or l i 0) c.sizes.ensures in
    let rest : length c.loop-size.rest.now ≡ length (drop (total (take i (map length frames))) (joined frames)) = ap (λ (l : List ℕ). length l) c.loop-size.invariant.rest in
    omega (arith, size, rest, length-drop (total (take i (map length frames))) (joined frames), frame-fits frames i inside)

pub path_at-path-requires-clause-inside : goal.path_at-path-requires-clause-inside
path_at-path-requires-clause-inside c =
    let sizes = c.sizes.result.now in
    let near : c.loop-size.size-index < c.args.wanted = omega (arith, length-take c.args.wanted sizes, c.loop-size-test.true) in
    omega (arith, near, c.requires.few, c.requires.many, c.loop-size.invariant.counted)

pub loop-size-preserved : goal.loop-size-preserved
loop-size-preserved c =
    let frames = c.args.texts.now in
    let opened = c.args.opened.now in
    let places = c.args.places.now in
    let sizes = c.sizes.result.now in
    let i = c.loop-size.size-index in
    let near : i < c.args.wanted = omega (arith, length-take c.args.wanted sizes, c.loop-size-test.true) in
    let inside : i < length frames = omega (arith, near, c.requires.few) in
    let placed : i < length places = omega (arith, inside, c.requires.many) in
    let before = total (take i (map length frames)) in
    let size = get_or (take c.args.wanted sizes) i 0 in
    let is : size ≡ get_or (map length frames) i 0 = get_or-take c.args.wanted sizes i 0 near ∙ ap (λ (l : List ℕ). get_or l i 0) c.sizes.ensures in
    let sum : before + size ≡ total (take (i + 1) (map length frames)) = omega (arith, is, total-more (map length frames) i (omega (arith, inside, length-map frames length))) in
    let behind : c.split_at.result.1.now ≡ drop (total (take (i + 1) (map length frames))) (joined frames) =
    c.split_at.ensures.back
    ∙ ap (λ (l : List ℕ). drop size l) c.loop-size.invariant.rest
    ∙ drop-drop size before (joined frames)
    ∙ ap (λ (n : ℕ). drop n (joined frames)) sum in
    let front : c.split_at.result.0.now ≡ get_or frames i [] =
    c.split_at.ensures.front
    ∙ ap (λ (l : List ℕ). take size l) c.loop-size.invariant.rest
    ∙ ap (λ (n : ℕ). take n (drop before (joined frames))) is
    ∙ frame-there frames i inside in
    let path : c.path_at-path.result.now ≡ get_or opened (get_or places i 0) [] = c.path_at-path.ensures ∙ ap (λ (n : ℕ). get_or opened (get_or places n 0) []) c.loop-size.invariant.counted in
    let pushed : map text_of c.push_text.new.taken.items ≡ map text_of c.loop-size.taken.items ++ record { path = c.path_at-path.result.now; text = c.split_at.result.0.now } ∷ [] = search rules in
    let longer : length c.push_text.new.taken.items ≡ length c.loop-size.taken.items + 1 = search rules in
    record {
      counted = ap (λ (n : ℕ). n + 1) c.loop-size.invariant.counted;
      rest = behind;
      taken =
          pushed
          ∙ ap (λ (l : List PathText). l ++ record { path = c.path_at-path.result.now; text = c.split_at.result.0.now } ∷ []) c.loop-size.invariant.taken
          ∙ ap (λ (p : List ℕ). (map text_of c.args.taken.now.items ++ take i (under_places opened places frames)) ++ record { path = p; text = c.split_at.result.0.now } ∷ []) path
          ∙ ap (λ (t : List ℕ). (map text_of c.args.taken.now.items ++ take i (under_places opened places frames)) ++ text_at opened (get_or places i 0) t ∷ []) front
          ∙ append_assoc (map text_of c.args.taken.now.items) (take i (under_places opened places frames)) (text_at opened (get_or places i 0) (get_or frames i []) ∷ [])
          ∙ ap (λ (l : List PathText). map text_of c.args.taken.now.items ++ l) (sym (more-places i opened places frames placed inside));
      more = omega (arith, longer, c.loop-size.invariant.more);
      since = omega (arith, longer, c.loop-size.invariant.more);
    }
