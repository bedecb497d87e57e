-- Patterns that are made one after another.
use Rattle.std.proofs.Common.{◌≡◌, ℕ, zero, suc, ◌<◌, List, [], ◌∷◌, ◌++◌, map, length, get_or, Option, Some, None, Vec, Result, Ok, Err, refl, sym, ap, ◌∙◌, subst, arith, rules}
use Rattle.std.proofs.lemmas.List.{append_assoc, append-nil}
use Rattle.std.specs.declared.alloc.Global.{Global}
use Rattle.sg_outside.specs.World.{WorldState, OnlyBuilds}
use Rattle.sg_pattern.specs.Builds.{RefusesNone}
use Rattle.sg_pattern.specs.declared.text.PatternText.{PatternText}
use Rattle.sg_pattern.specs.declared.text.BuildRefusal.{BuildRefusal}
use Rattle.sg_pattern.specs.declared.text.BuildRefusal.TheVariants as build
use Rattle.sg_filter.specs.declared.expr.Expr.{Expr}
use Rattle.sg_filter.specs.Patterns.{joined, patterns_of, AreValid, IsPatternAmong, RefusesAny}
use Rattle.sg_rewrite.specs.Changes.{HasPattern}
use Rattle.sg_rewrite.specs.Ops.{RefusesOp, change_of}
use Rattle.sg_rewrite.specs.declared.op.Op.{Op}
use Rattle.sg_rewrite.specs.declared.op.Op.TheVariants.{Set, Unset, Subst, GroupSet, GroupUnset, SetTag, ClearTag}
use Rattle.sg_tree.specs.Refusals.{path_refusal}
use Rattle.sg_tree.specs.declared.refusal.PathRefusal.{PathRefusal}
use Rattle.sg_tree.specs.declared.refusal.PathRefusal.TheVariants.{BadPattern, PatternTooLarge, TooManyOffers, NoMemory}
use Rattle.sg_parsers.specs.declared.rule.ParserRule.{ParserRule}
use Rattle.sg_tree.specs.declared.sound.RewriteRule.{RewriteRule}
use Rattle.sg_tree.specs.declared.tree.Element.{Element, Filter, Rewrite, Parse, Deliver, Junction, If, fold-roll-Element}
use Rattle.sg_tree.specs.declared.tree.Element.TheVariants.{rolls-If}
use Rattle.sg_tree.specs.declared.tree.Element.{the_lemmas}
use Rattle.sg_tree.specs.declared.tree.Element.TheOpen.{Element-F}
use Rattle.sg_tree.specs.declared.tree.Path.{Path, fold_out-Path}
use Rattle.sg_table.specs.Patterns.{PatternTexts, MakesPatterns, RefusesPatterns, op_patterns, rule_patterns, element_patterns_step, path_patterns_step, element_patterns, path_patterns, list_patterns, siblings_patterns, choices_patterns, other_patterns, own_patterns}
use Rattle.sg_tree.proofs.Views.{map-twice}

pub patterns-Filter : (named : List Expr) (expr : Expr) → element_patterns named (Filter expr) ≡ patterns_of named expr
patterns-Filter named expr = search (rules, the_lemmas)

pub patterns-Rewrite : (named : List Expr) (rule : RewriteRule) → element_patterns named (Rewrite rule) ≡ rule_patterns named rule
patterns-Rewrite named rule = search (rules, the_lemmas)

pub patterns-Parse : (named : List Expr) (rule : ParserRule) → element_patterns named (Parse rule) ≡ []
patterns-Parse named rule = search (rules, the_lemmas)

pub patterns-Deliver : (named : List Expr) (drivers : Vec ℕ Global) → element_patterns named (Deliver drivers) ≡ []
patterns-Deliver named drivers = search (rules, the_lemmas)

pub patterns-Junction : (named : List Expr) (channels : Vec Path Global) → element_patterns named (Junction channels) ≡ siblings_patterns named channels.items
patterns-Junction named channels = search (rules, the_lemmas)

pub patterns-If : (named : List Expr) (branches : Vec (Expr × Vec Element Global) Global) (other : Option (Vec Element Global))
    → element_patterns named (If branches other) ≡ choices_patterns named branches.items ++ other_patterns named other
patterns-If named branches None =
    ap (element_patterns named) (sym (rolls-If branches None))
    ∙ fold-roll-Element PatternTexts PatternTexts (element_patterns_step named) path_patterns_step (Element-F.If branches None)
    ∙ ap (λ (ps : List PatternTexts). joined ps ++ []) (map-twice _ _ branches.items)
patterns-If named branches (Some other) =
    ap (element_patterns named) (sym (rolls-If branches (Some other)))
    ∙ fold-roll-Element PatternTexts PatternTexts (element_patterns_step named) path_patterns_step (Element-F.If branches (Some other))
    ∙ ap (λ (ps : List PatternTexts). joined ps ++ list_patterns named other.items) (map-twice _ _ branches.items)

pub patterns-Path : (named : List Expr) (path : Path) → path_patterns named path ≡ own_patterns named path
patterns-Path named path = fold_out-Path PatternTexts PatternTexts (element_patterns_step named) path_patterns_step path

-- more patterns that are valid
pub valid-append : (ps qs : PatternTexts) → AreValid ps → AreValid qs → AreValid (ps ++ qs)
valid-append [] qs hp hq = hq
valid-append (p ∷ ps) qs hp hq = (hp.0, valid-append ps qs hp.1 hq)

joined-last : (xs : List PatternTexts) (x : PatternTexts) → joined (xs ++ x ∷ []) ≡ joined xs ++ x
joined-last [] x = append-nil x
joined-last (y ∷ xs) x = ap (λ (r : PatternTexts). y ++ r) (joined-last xs x) ∙ sym (append_assoc y (joined xs) x)

pub valid-last : (ps : List PatternTexts) (p : PatternTexts) (qs : List PatternTexts) → AreValid (joined ps) → AreValid p → qs ≡ ps ++ p ∷ [] → AreValid (joined qs)
valid-last ps p qs hs h e = subst (λ (x : PatternTexts). AreValid x) (sym (ap joined e ∙ joined-last ps p)) (valid-append (joined ps) p hs h)

-- these were made behind others
pub valid-behind : (old mid new : WorldState) (ps qs : PatternTexts) → AreValid ps × RefusesNone old mid → AreValid qs × RefusesNone mid new → AreValid (ps ++ qs) × RefusesNone old new
valid-behind old mid new ps qs a b = (valid-append ps qs a.0 b.0, b.1 ∙ a.1)

-- one among more
pub before : (ps qs : PatternTexts) (p : PatternText) → IsPatternAmong ps p → IsPatternAmong (ps ++ qs) p
before ps qs p a = record { before = a.before; after = a.after ++ qs; is = ap (λ (x : PatternTexts). x ++ qs) a.is ∙ append_assoc a.before (p ∷ a.after) qs }

pub behind : (ps qs : PatternTexts) (p : PatternText) → IsPatternAmong qs p → IsPatternAmong (ps ++ qs) p
behind ps qs p a = record { before = ps ++ a.before; after = a.after; is = ap (λ (x : PatternTexts). ps ++ x) a.is ∙ sym (append_assoc ps a.before (p ∷ a.after)) }

pub within-joined : {X : Type 0} (f : X → PatternTexts) (xs : List X) (i : ℕ) (d : X) (p : PatternText) → i < length xs → IsPatternAmong (f (get_or xs i d)) p → IsPatternAmong (joined (map f xs)) p
within-joined f [] i d p h a = absurd (omega arith)
within-joined f (x ∷ xs) zero d p h a = before (f x) (joined (map f xs)) p a
within-joined f (x ∷ xs) (suc i) d p h a = behind (f x) (joined (map f xs)) p (within-joined f xs i d p (omega arith) a)

-- a refusal of some is one of more
pub refused-within : (old mid new : WorldState) (ps qs : PatternTexts) (why : PathRefusal) → ((p : PatternText) → IsPatternAmong ps p → IsPatternAmong qs p)
    → OnlyBuilds old mid → RefusesPatterns mid new ps why → RefusesPatterns old new qs why
refused-within old mid new ps qs (BadPattern line) w o r = record { one = r.one; among = w r.one r.among; at = r.at; bad = r.bad }
refused-within old mid new ps qs (PatternTooLarge line) w o r = record { one = r.one; among = w r.one r.among; at = r.at; is_regex = r.is_regex; rose = omega (arith, o.1, r.rose) }
refused-within old mid new ps qs (TooManyOffers line) w o r = r
refused-within old mid new ps qs NoMemory w o r = tt

pub refused-at : (old new : WorldState) (ps qs : PatternTexts) (why : PathRefusal) → ps ≡ qs → RefusesPatterns old new ps why → RefusesPatterns old new qs why
refused-at old new ps qs why e r = refused-within old old new ps qs why (λ p a. subst (λ (x : PatternTexts). IsPatternAmong x p) e a) (refl, omega arith) r

-- what was made after others
pub makes-front : {A : Type 0} (old mid new : WorldState) (ps qs all : PatternTexts) (r : Result A PathRefusal) → all ≡ ps ++ qs → AreValid qs × RefusesNone old mid → OnlyBuilds old mid → MakesPatterns mid new ps r
    → MakesPatterns old new all r
makes-front old mid new ps qs all (Ok made) e v o h = (subst (λ (x : PatternTexts). AreValid x) (sym e) (valid-append ps qs h.0 v.0), h.1 ∙ v.1)
makes-front old mid new ps qs all (Err why) e v o h = refused-within old mid new ps all why (λ p a. subst (λ (x : PatternTexts). IsPatternAmong x p) (sym e) (before ps qs p a)) o h

pub refused-behind : (old mid new : WorldState) (ps qs all : PatternTexts) (why : PathRefusal) → all ≡ ps ++ qs → OnlyBuilds old mid → RefusesPatterns mid new qs why → RefusesPatterns old new all why
refused-behind old mid new ps qs all why e o h = refused-within old mid new qs all why (λ p a. subst (λ (x : PatternTexts). IsPatternAmong x p) (sym e) (behind ps qs p a)) o h

pub refused-front : (old mid new : WorldState) (ps qs all : PatternTexts) (why : PathRefusal) → all ≡ ps ++ qs → OnlyBuilds old mid → RefusesPatterns mid new ps why → RefusesPatterns old new all why
refused-front old mid new ps qs all why e o h = refused-within old mid new ps all why (λ p a. subst (λ (x : PatternTexts). IsPatternAmong x p) (sym e) (before ps qs p a)) o h

pub refused-item : {X : Type 0} (f : X → PatternTexts) (xs : List X) (i : ℕ) (x d : X) (old mid new : WorldState) (why : PathRefusal)
    → i < length xs → x ≡ get_or xs i d → OnlyBuilds old mid → RefusesPatterns mid new (f x) why → RefusesPatterns old new (joined (map f xs)) why
refused-item f xs i x d old mid new why h e o r = refused-within old mid new (f x) (joined (map f xs)) why (λ p a. within-joined f xs i d p h (subst (λ (y : _). IsPatternAmong (f y) p) e a)) o r

-- a filter's or a rewrite's refusal
pub refused-expr : (old new : WorldState) (ps : PatternTexts) (why : BuildRefusal) (said : PathRefusal) → said ≡ path_refusal why → RefusesAny old new ps why → RefusesPatterns old new ps said
refused-expr old new ps (build.BadPattern line) said e r = subst (λ (x : PathRefusal). RefusesPatterns old new ps x) (sym e) r
refused-expr old new ps (build.TooLarge line) said e r = subst (λ (x : PathRefusal). RefusesPatterns old new ps x) (sym e) r
refused-expr old new ps build.NoMemory said e r = subst (λ (x : PathRefusal). RefusesPatterns old new ps x) (sym e) tt

op-refuses : (old new : WorldState) (op : Op) (why : BuildRefusal) → RefusesOp old new op why → RefusesAny old new (op_patterns op) why
op-refuses old new (Set name text) why r = subst (λ (x : BuildRefusal). RefusesAny old new [] x) (sym r) tt
op-refuses old new (Unset name) why r = subst (λ (x : BuildRefusal). RefusesAny old new [] x) (sym r) tt
op-refuses old new (Subst name pattern text) (build.BadPattern line) r = record { one = pattern; among = record { before = []; after = []; is = refl }; at = sym r.0; bad = r.1 }
op-refuses old new (Subst name pattern text) (build.TooLarge line) r = record { one = pattern; among = record { before = []; after = []; is = refl }; at = sym r.0; is_regex = r.1; rose = r.2 }
op-refuses old new (Subst name pattern text) build.NoMemory r = tt
op-refuses old new (GroupSet globs text) why r = subst (λ (x : BuildRefusal). RefusesAny old new [] x) (sym r) tt
op-refuses old new (GroupUnset globs) why r = subst (λ (x : BuildRefusal). RefusesAny old new [] x) (sym r) tt
op-refuses old new (SetTag tag) why r = subst (λ (x : BuildRefusal). RefusesAny old new [] x) (sym r) tt
op-refuses old new (ClearTag tag) why r = subst (λ (x : BuildRefusal). RefusesAny old new [] x) (sym r) tt

pub refused-op : (old new : WorldState) (op : Op) (why : BuildRefusal) (said : PathRefusal) → said ≡ path_refusal why → RefusesOp old new op why → RefusesPatterns old new (op_patterns op) said
refused-op old new op why said e r = refused-expr old new (op_patterns op) why said e (op-refuses old new op why r)

pub op-valid : (op : Op) → HasPattern (change_of op) → AreValid (op_patterns op)
op-valid (Set name text) h = tt
op-valid (Unset name) h = tt
op-valid (Subst name pattern text) h = (h, tt)
op-valid (GroupSet globs text) h = tt
op-valid (GroupUnset globs) h = tt
op-valid (SetTag tag) h = tt
op-valid (ClearTag tag) h = tt
