-- The turns of the work.
use Rattle.std.proofs.Common.{◌≡◌, ℕ, ◌+◌, ◌<◌, ◌≤◌, List, [], ◌∷◌, ◌++◌, map, length, Bor, refl, sym, ap, ap₂, ◌∙◌, subst, arith, length-append}
use Rattle.std.proofs.lemmas.List.{append_assoc, append-nil}
use Rattle.sg_outside.specs.World.{WorldState, OnlyBuilds}
use Rattle.sg_pattern.specs.declared.text.PatternText.{PatternText}
use Rattle.sg_pattern.specs.declared.text.BuildRefusal.{BuildRefusal}
use Rattle.sg_pattern.specs.declared.text.BuildRefusal.TheVariants.{BadPattern, TooLarge, NoMemory}
use Rattle.sg_filter.specs.declared.check.Predicate.{Predicate}
use Rattle.sg_filter.specs.declared.expr.Expr.{Expr}
use Rattle.sg_filter.specs.declared.node.Node.{Node}
use Rattle.sg_filter.specs.declared.work.CompileFrame.{CompileFrame}
use Rattle.sg_filter.specs.declared.work.CompileFrame.TheVariants as frame
use Rattle.sg_filter.specs.declared.work.CompileWork.{CompileWork}
use Rattle.sg_filter.specs.Decisions.{Decision, Fork, ask, forks, all_fork, any_fork, decision_of}
use Rattle.sg_filter.specs.Patterns.{joined, patterns_of, AreValid, IsPatternAmong, RefusesAny, RefusesExpr}
use Rattle.sg_filter.specs.Table.{decision_at, IsNodeTable}
use Rattle.sg_filter.specs.Work.{does, run, frame_patterns, waiting_patterns, IsIn, AreIn, NodesGrow, ComesToNodes, TurnsFrame, WorkLeads}
use Rattle.sg_filter.proofs.Tables.{table-none, grows-none, grows-one, grows-kept, grows-length, decision-pushed}

-- lists of forks and of patterns, from their ends
pub all-last : (fs : List Fork) (f : Fork) (pass fail : Decision) → all_fork (fs ++ f ∷ []) pass fail ≡ all_fork fs (f pass fail) fail
all-last [] f pass fail = refl
all-last (g ∷ fs) f pass fail = ap (λ (d : Decision). g d fail) (all-last fs f pass fail)

pub any-last : (fs : List Fork) (f : Fork) (pass fail : Decision) → any_fork (fs ++ f ∷ []) pass fail ≡ any_fork fs pass (f pass fail)
any-last [] f pass fail = refl
any-last (g ∷ fs) f pass fail = ap (λ (d : Decision). g pass d) (any-last fs f pass fail)

pub map-last : {A B : Type 0} (f : A → B) (xs : List A) (x : A) → map f (xs ++ x ∷ []) ≡ map f xs ++ f x ∷ []
map-last f [] x = refl
map-last f (y ∷ xs) x = ap (λ ys. f y ∷ ys) (map-last f xs x)

joined-append : (xs ys : List (List PatternText)) → joined (xs ++ ys) ≡ joined xs ++ joined ys
joined-append [] ys = refl
joined-append (x ∷ xs) ys = ap (λ (r : List PatternText). x ++ r) (joined-append xs ys) ∙ sym (append_assoc x (joined xs) (joined ys))

joined-last : (xs : List (List PatternText)) (x : List PatternText) → joined (xs ++ x ∷ []) ≡ joined xs ++ x
joined-last xs x = joined-append xs (x ∷ []) ∙ ap (λ (r : List PatternText). joined xs ++ r) (append-nil x)

map-append : {A B : Type 0} (f : A → B) (xs ys : List A) → map f (xs ++ ys) ≡ map f xs ++ map f ys
map-append f [] ys = refl
map-append f (x ∷ xs) ys = ap (λ zs. f x ∷ zs) (map-append f xs ys)

valid-append : (xs ys : List PatternText) → AreValid xs → AreValid ys → AreValid (xs ++ ys)
valid-append [] ys a b = b
valid-append (x ∷ xs) ys a b = (a.0, valid-append xs ys a.1 b)

in-append : (n : ℕ) (xs ys : List CompileFrame) → AreIn n xs → AreIn n ys → AreIn n (xs ++ ys)
in-append n [] ys a b = b
in-append n (x ∷ xs) ys a b = (a.0, in-append n xs ys a.1 b)

in-front : (n : ℕ) (xs ys : List CompileFrame) → AreIn n (xs ++ ys) → AreIn n xs
in-front n [] ys a = tt
in-front n (x ∷ xs) ys a = (a.0, in-front n xs ys a.1)

in-last : (n : ℕ) (xs : List CompileFrame) (x : CompileFrame) → AreIn n (xs ++ x ∷ []) → IsIn n x
in-last n [] x a = a.0
in-last n (y ∷ xs) x a = in-last n xs x a.1

in-more : (n m : ℕ) (x : CompileFrame) → n ≤ m → IsIn n x → IsIn m x
in-more n m (frame.One expr depth pass fail) le h = (omega (arith, h.0), omega (arith, h.1))
in-more n m (frame.All terms depth fail) le h = omega (arith, h)
in-more n m (frame.Any terms depth pass) le h = omega (arith, h)

are-in-more : (n m : ℕ) (xs : List CompileFrame) → n ≤ m → AreIn n xs → AreIn m xs
are-in-more n m [] le h = tt
are-in-more n m (x ∷ xs) le h = (in-more n m x le h.0, are-in-more n m xs le h.1)

module _ (named : List Expr) where
  -- nothing but frames is added
  pub comes-pushed : (made : Decision) (patterns : List PatternText) (here : Type 0) (old new : CompileWork) (more : List CompileFrame)
      → new.nodes ≡ old.nodes → new.frames.items ≡ old.frames.items ++ more
      → (here → AreIn (length old.nodes.items + 2) more × (new.last < length old.nodes.items + 2))
      → run named old.nodes.items more (decision_at old.nodes.items new.last) ≡ made
      → patterns ≡ waiting_patterns named more
      → ComesToNodes named made patterns here old new
  comes-pushed made patterns here old new more en ef inside means is = record {
    grows = λ h. subst (λ v. NodesGrow old.nodes.items v.items) (sym en) (grows-none old.nodes.items);
    more = more;
    frames = ef;
    inside = λ h. subst (λ v. AreIn (length v.items + 2) more × (new.last < length v.items + 2)) (sym en) (inside h);
    means = λ h. ap (λ v. run named v.items more (decision_at v.items new.last)) en ∙ means;
    done = [];
    is = is ∙ sym (append-nil (waiting_patterns named more));
    valid = tt;
  }

  -- a check is added
  pub comes-asked : (made : Decision) (patterns : List PatternText) (here : Type 0) (old new : CompileWork) (check : Predicate) (pass fail : ℕ)
      → new.nodes.items ≡ old.nodes.items ++ (record { check = check; yes = pass; no = fail }) ∷ [] → new.last ≡ length old.nodes.items + 2 → new.frames ≡ old.frames
      → (here → (pass < length old.nodes.items + 2) × (fail < length old.nodes.items + 2))
      → ask check (decision_at old.nodes.items pass) (decision_at old.nodes.items fail) ≡ made
      → AreValid patterns
      → ComesToNodes named made patterns here old new
  comes-asked made patterns here old new check pass fail en el ef inside means valid = record {
    grows = λ h. grows-one old.nodes.items new.nodes.items (record { check = check; yes = pass; no = fail }) en (inside h).0 (inside h).1;
    more = [];
    frames = ap (λ v. v.items) ef ∙ sym (append-nil old.frames.items);
    inside = λ h. (tt, omega (arith, el, ap length en, length-append old.nodes.items ((record { check = check; yes = pass; no = fail }) ∷ [])));
    means = λ h. ap₂ decision_at en el ∙ decision-pushed old.nodes.items (record { check = check; yes = pass; no = fail }) ∙ means;
    done = patterns;
    is = refl;
    valid = valid;
  }

  run-append : (nodes : List Node) (xs ys : List CompileFrame) (d : Decision) → run named nodes (xs ++ ys) d ≡ run named nodes xs (run named nodes ys d)
  run-append nodes [] ys d = refl
  run-append nodes (x ∷ xs) ys d = ap (does named nodes x) (run-append nodes xs ys d)

  does-kept : (a b : List Node) (one : CompileFrame) (d : Decision) → NodesGrow a b → IsIn (length a + 2) one → does named b one d ≡ does named a one d
  does-kept a b (frame.One expr depth pass fail) d g h = ap₂ (forks depth named expr.now) (grows-kept a b pass g h.0) (grows-kept a b fail g h.1)
  does-kept a b (frame.All terms depth fail) d g h = ap (all_fork (map (forks depth named) terms.now) d) (grows-kept a b fail g h)
  does-kept a b (frame.Any terms depth pass) d g h = ap (λ (p : Decision). any_fork (map (forks depth named) terms.now) p d) (grows-kept a b pass g h)

  run-kept : (a b : List Node) (xs : List CompileFrame) (d : Decision) → NodesGrow a b → AreIn (length a + 2) xs → run named b xs d ≡ run named a xs d
  run-kept a b [] d g h = refl
  run-kept a b (x ∷ xs) d g h = does-kept a b x (run named b xs d) g h.0 ∙ ap (does named a x) (run-kept a b xs d g h.1)

  waiting-append : (xs ys : List CompileFrame) → waiting_patterns named (xs ++ ys) ≡ waiting_patterns named xs ++ waiting_patterns named ys
  waiting-append xs ys = ap joined (map-append (frame_patterns named) xs ys) ∙ joined-append (map (frame_patterns named) xs) (map (frame_patterns named) ys)

  waiting-last : (xs : List CompileFrame) (x : CompileFrame) → waiting_patterns named (xs ++ x ∷ []) ≡ waiting_patterns named xs ++ frame_patterns named x
  waiting-last xs x = ap joined (map-last (frame_patterns named) xs x) ∙ joined-last (map (frame_patterns named) xs) (frame_patterns named x)

  module _ (expr : Expr) where
    -- the work goes on with one frame
    pub leads-on : (at popped new : CompileWork) (one : CompileFrame) → WorkLeads named expr at → at.frames.items ≡ popped.frames.items ++ one ∷ [] → popped.nodes ≡ at.nodes → popped.last ≡ at.last
        → TurnsFrame named one popped new → WorkLeads named expr new
    leads-on at popped new one l ef en el t =
        let nodes = popped.nodes.items in
        let below = popped.frames.items in
        let same : nodes ≡ at.nodes.items = ap (λ v. v.items) en in
        let all : AreIn (length nodes + 2) (below ++ one ∷ []) = subst (λ (ns : List Node). AreIn (length ns + 2) (below ++ one ∷ [])) (sym same) (subst (AreIn (length at.nodes.items + 2)) ef l.inside) in
        let kept : AreIn (length nodes + 2) below = in-front (length nodes + 2) below (one ∷ []) all in
        let here : IsIn (length nodes + 2) one × (popped.last < length nodes + 2) = (in-last (length nodes + 2) below one all, omega (arith, l.within, el, ap length same)) in
        let g : NodesGrow nodes new.nodes.items = t.grows here in
        let inside = t.inside here in
        let longer : length nodes + 2 ≤ length new.nodes.items + 2 = omega (arith, grows-length nodes new.nodes.items g) in
        let last : Decision = decision_at new.nodes.items new.last in
        record {
          table = g.in_order (subst IsNodeTable (sym same) l.table);
          inside = subst (AreIn (length new.nodes.items + 2)) (sym t.frames) (in-append (length new.nodes.items + 2) below t.more (are-in-more (length nodes + 2) (length new.nodes.items + 2) below longer kept) inside.0);
          within = inside.1;
          means = ap (λ (xs : List CompileFrame). run named new.nodes.items xs last) t.frames
              ∙ run-append new.nodes.items below t.more last
              ∙ ap (run named new.nodes.items below) (t.means here)
              ∙ run-kept nodes new.nodes.items below (does named nodes one (decision_at nodes popped.last)) g kept
              ∙ sym (run-append nodes below (one ∷ []) (decision_at nodes popped.last))
              ∙ ap₂ (λ (ns : List Node) (k : ℕ). run named ns (below ++ one ∷ []) (decision_at ns k)) same el
              ∙ ap (λ (xs : List CompileFrame). run named at.nodes.items xs (decision_at at.nodes.items at.last)) (sym ef)
              ∙ l.means;
          done = t.done ++ l.done;
          is = l.is
              ∙ ap (λ (xs : List CompileFrame). waiting_patterns named xs ++ l.done) ef
              ∙ ap (λ (ps : List PatternText). ps ++ l.done) (waiting-last below one ∙ ap (λ (ps : List PatternText). waiting_patterns named below ++ ps) t.is ∙ sym (append_assoc (waiting_patterns named below) (waiting_patterns named t.more) t.done) ∙ ap (λ (ps : List PatternText). ps ++ t.done) (sym (waiting-append below t.more)))
              ∙ append_assoc (waiting_patterns named (below ++ t.more)) t.done l.done
              ∙ ap (λ (xs : List CompileFrame). waiting_patterns named xs ++ (t.done ++ l.done)) (sym t.frames);
          valid = valid-append t.done l.done t.valid l.valid;
        }

    -- the work of one expression
    pub leads-start : (x : Bor Expr) (old new : CompileWork) → x.now ≡ expr → old.nodes.items ≡ [] → old.frames.items ≡ [] → old.last ≡ 0
        → new.nodes ≡ old.nodes → new.last ≡ old.last → new.frames.items ≡ old.frames.items ++ frame.One x (length named) 1 0 ∷ [] → WorkLeads named expr new
    leads-start x old new ex on of ol en el ef =
        let none : new.nodes.items ≡ [] = ap (λ v. v.items) en ∙ on in
        let only : new.frames.items ≡ frame.One x (length named) 1 0 ∷ [] = ef ∙ ap (λ (xs : List CompileFrame). xs ++ frame.One x (length named) 1 0 ∷ []) of in
        let first : 1 < length new.nodes.items + 2 = omega arith in
        let before : 0 < length new.nodes.items + 2 = omega arith in
        record {
          table = table-none new.nodes.items none;
          inside = subst (AreIn (length new.nodes.items + 2)) (sym only) ((first, before), tt);
          within = omega (arith, el, ol);
          means = ap (λ (xs : List CompileFrame). run named new.nodes.items xs (decision_at new.nodes.items new.last)) only
              ∙ ap (λ (ns : List Node). forks (length named) named x.now (decision_at ns 1) (decision_at ns 0)) none
              ∙ ap (decision_of named) ex;
          done = [];
          is = ap (patterns_of named) (sym ex) ∙ sym (append-nil (patterns_of named x.now)) ∙ sym (ap (waiting_patterns named) only) ∙ sym (append-nil (waiting_patterns named new.frames.items));
          valid = tt;
        }

    among : (at : CompileWork) (below : List CompileFrame) (one : CompileFrame) (p : PatternText) → WorkLeads named expr at → at.frames.items ≡ below ++ one ∷ [] → IsPatternAmong (frame_patterns named one) p → IsPatternAmong (patterns_of named expr) p
    among at below one p l ef a = record {
      before = waiting_patterns named below ++ a.before;
      after = a.after ++ l.done;
      is = l.is
          ∙ ap (λ (xs : List CompileFrame). waiting_patterns named xs ++ l.done) ef
          ∙ ap (λ (ps : List PatternText). ps ++ l.done) (waiting-last below one ∙ ap (λ (ps : List PatternText). waiting_patterns named below ++ ps) a.is ∙ sym (append_assoc (waiting_patterns named below) a.before (p ∷ a.after)))
          ∙ append_assoc (waiting_patterns named below ++ a.before) (p ∷ a.after) l.done;
    }

    -- a frame's refusal is the expression's
    pub refuses-on : (at : CompileWork) (below : List CompileFrame) (one : CompileFrame) (old mid new : WorldState) (why : BuildRefusal) → WorkLeads named expr at → at.frames.items ≡ below ++ one ∷ []
        → OnlyBuilds old mid → RefusesAny mid new (frame_patterns named one) why → RefusesExpr old new named expr why
    refuses-on at below one old mid new (BadPattern line) l ef o r = record { one = r.one; among = among at below one r.one l ef r.among; at = r.at; bad = r.bad }
    refuses-on at below one old mid new (TooLarge line) l ef o r = record { one = r.one; among = among at below one r.one l ef r.among; at = r.at; is_regex = r.is_regex; rose = omega (arith, o.1, r.rose) }
    refuses-on at below one old mid new NoMemory l ef o r = tt

pub only-none : (state : WorldState) → OnlyBuilds state state
only-none state = (refl, omega arith)

pub only-more : (old mid new : WorldState) → OnlyBuilds old mid → OnlyBuilds mid new → OnlyBuilds old new
only-more old mid new a b = (b.0 ∙ ap (λ (w : WorldState). record w { build_faults = new.build_faults }) a.0, omega (arith, a.1, b.1))
