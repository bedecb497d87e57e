-- The statements one after another, and all of them.
use Rattle.std.specs.Prelude.{codes}
use Rattle.std.proofs.Common.{◌≡◌, ◌∙◌, ℕ, ◌+◌, ◌<◌, ◌≤◌, List, [], ◌∷◌, ◌++◌, length, get_or, take, map, refl, sym, ap, subst}
use Rattle.std.specs.List.{flat_map}
use Rattle.std.proofs.lemmas.List.{take_all, append-nil, append_assoc}
use Rattle.sg_parse_expr.specs.declared.tree.Call.{Call}
use Rattle.sg_parse_path.specs.declared.tree.RawElement.{RawElement}
use Rattle.sg_parse_path.specs.declared.tree.RawLog.{RawLog, out-RawLog}
use Rattle.sg_parse_text.specs.declared.statement.Statement.{Statement}
use Rattle.sg_options.specs.Settings.{has_word}
use Rattle.sg_filter.specs.Patterns.{joined}
use Rattle.sg_filter.specs.declared.expr.Expr.{Expr}
use Rattle.sg_tree.specs.Offers.{TopStatement, Woods, top_view, woods_of}
use Rattle.sg_tree.specs.Laws.{TopsStayWithin}
use Rattle.sg_tree.specs.Readings.{inlet_of}
use Rattle.sg_tree.specs.declared.forest.Forest.{Forest}
use Rattle.sg_tree.specs.declared.forest.InletRule.{InletRule}
use Rattle.sg_tree.specs.declared.tree.Path.{Path, out-Path}
use Rattle.sg_table.specs.Patterns as table
use Rattle.sg_table.specs.Patterns.{PatternTexts}
use Rattle.sg_names.specs.declared.names.Names.{Names}
use Rattle.sg_plan.specs.declared.owner.Owner.{Owner}
use Rattle.sg_plan.specs.declared.ends.Endpoints.{Endpoints}
use Rattle.sg_forest.specs.Written.{WrittenRule, written_of, written_patterns}
use Rattle.sg_forest.specs.References.{source_in, flags_of}
use Rattle.sg_forest.specs.Patterns.{log_patterns, logs_patterns}
use Rattle.sg_forest.specs.Statements.{line_of, line_in, filters_in, rewrites_of, rewrites_in, calls_of, written_at, logs_at, logs_of, top_in, patterns_with}
use Rattle.sg_forest.specs.Adds.{IsLoweredLog, IsTop, AddsTops}
use Rattle.sg_forest.specs.Forests.{IsForest}
use Rattle.sg_forest.proofs.Adding.{joined-last}
use Rattle.sg_forest.proofs.Mapping.{map-one, flat-next}
use Rattle.sg_forest.proofs.Rules.{rules-written}
use Rattle.sg_forest.proofs.Within.{tops-stay}

map-both : {A B : Type 0} (f : A → B) (xs ys : List A) → map f (xs ++ ys) ≡ map f xs ++ map f ys
map-both f [] ys = refl
map-both f (x ∷ xs) ys = ap (λ zs. f x ∷ zs) (map-both f xs ys)

joined-both : (xs ys : List PatternTexts) → joined (xs ++ ys) ≡ joined xs ++ joined ys
joined-both [] ys = refl
joined-both (x ∷ xs) ys = ap (λ (r : PatternTexts). x ++ r) (joined-both xs ys) ∙ sym (append_assoc x (joined xs) (joined ys))

-- three lists, the last two as one
behind-both : {A : Type 0} (a b c x y z : List A) → b ≡ a ++ x → c ≡ b ++ y → z ≡ x ++ y → c ≡ a ++ z
behind-both a b c x y z first second whole = second ∙ ap (λ p. p ++ y) first ∙ append_assoc a x y ∙ ap (λ p. a ++ p) (sym whole)

module _ (names : Names) (ends : Endpoints) (rewrites : List (List Call)) where
  pub top-made : (path : Path) (log : RawLog) (sources : List ℕ) (inlets outlets : List Owner) (elements : List RawElement)
      → (out-Path path).sources.items ≡ sources → sources ≡ flat_map (source_in inlets) elements
      → inlets ≡ ends.inlets → elements ≡ (out-RawLog log).elements
      → (out-Path path).catchall ≡ has_word (codes "catchall") (flags_of log)
      → (out-Path path).line ≡ line_in log
      → outlets ≡ ends.outlets → IsLoweredLog names outlets rewrites log path → IsTop names ends rewrites log path
  unfolding top_in
  top-made path log sources inlets outlets elements same from ins els caught line outs means =
      let own = subst (λ (os : List Owner). IsLoweredLog names os rewrites log path) outs means in
      let all = same ∙ from ∙ (λ i. flat_map (source_in (ins i)) (els i)) in
      record {
        top = λ named i. record { sources = all i; catchall = caught i; marks = ((own named).0 i).0; steps = ((own named).0 i).1 };
        patterns = λ named. (own named).1;
        line = line;
      }

  pub tops-none : (paths : List Path) → AddsTops names ends rewrites [] paths paths
  tops-none paths = record {
    tops = λ named. sym (append-nil (map (top_view named) paths));
    patterns = λ named. sym (append-nil (table.siblings_patterns named paths));
    lines = sym (append-nil (map line_of paths));
  }

  pub tops-one : (log : RawLog) (old new : List Path) (path : Path) → IsTop names ends rewrites log path → new ≡ old ++ path ∷ [] → AddsTops names ends rewrites (log ∷ []) old new
  tops-one log old new path one is = record {
    tops = λ named. map-one (top_view named) old new path is ∙ ap (λ (t : TopStatement). map (top_view named) old ++ t ∷ []) (one.top named);
    patterns = λ named.
        ap (table.siblings_patterns named) is
        ∙ joined-last (table.path_patterns named) old path
        ∙ ap (λ (p : PatternTexts). table.siblings_patterns named old ++ p) (one.patterns named ∙ sym (append-nil (log_patterns names rewrites named log)));
    lines = map-one line_of old new path is ∙ ap (λ line. map line_of old ++ line ∷ []) one.line;
  }

  tops-both : (xs ys zs : List RawLog) (a b c : List Path) → zs ≡ xs ++ ys → AddsTops names ends rewrites xs a b → AddsTops names ends rewrites ys b c → AddsTops names ends rewrites zs a c
  tops-both xs ys zs a b c is first second = record {
    tops = λ named. behind-both _ _ _ _ _ _ (first.tops named) (second.tops named) (ap (map (top_in names ends rewrites named)) is ∙ map-both _ xs ys);
    patterns = λ named.
        behind-both _ _ _ _ _ _ (first.patterns named) (second.patterns named)
        (ap (logs_patterns names rewrites named) is ∙ ap joined (map-both (log_patterns names rewrites named) xs ys) ∙ joined-both (map (log_patterns names rewrites named) xs) (map (log_patterns names rewrites named) ys));
    lines = behind-both _ _ _ _ _ _ first.lines second.lines (ap (map line_in) is ∙ map-both line_in xs ys);
  }

  pub tops-more : (statements : List Statement) (i : ℕ) (one : Statement) (old mid new : List Path) → i < length statements → one ≡ get_or statements i one
      → AddsTops names ends rewrites (flat_map logs_at (take i statements)) old mid
      → AddsTops names ends rewrites (logs_at one) mid new
      → AddsTops names ends rewrites (flat_map logs_at (take (i + 1) statements)) old new
  tops-more statements i one old mid new below here first second =
      tops-both (flat_map logs_at (take i statements)) (logs_at one) (flat_map logs_at (take (i + 1) statements)) old mid new (flat-next logs_at statements i one below here) first second

  pub tops-all : (statements : List Statement) (i : ℕ) (old new : List Path) → length statements ≤ i
      → AddsTops names ends rewrites (flat_map logs_at (take i statements)) old new → AddsTops names ends rewrites (flat_map logs_at statements) old new
  tops-all statements i old new past tops = subst (λ (xs : List Statement). AddsTops names ends rewrites (flat_map logs_at xs) old new) (take_all i statements past) tops

pub forest-made : (names : Names) (ends : Endpoints) (inlets : List InletRule) (statements : List Statement) (forest : Forest) (found calls : List (List Call))
    → found ≡ rewrites_of statements
    → calls ≡ calls_of statements
    → forest.inlets.items ≡ inlets
    → length forest.dests.items ≡ length ends.outlets
    → forest.filters.items ≡ filters_in names statements
    → map written_of forest.rewrites.items ≡ flat_map (written_at names) found
    → AddsTops names ends calls (logs_of statements) [] forest.paths.items
    → IsForest names ends inlets statements forest
forest-made names ends inlets statements forest found calls first called same dests filters rules tops =
    let named : List Expr = forest.filters.items in
    let written : map written_of forest.rewrites.items ≡ rewrites_in names statements = rules ∙ ap (flat_map (written_at names)) first in
    let woods : woods_of forest ≡ _ =
    (λ i. record {
      inlets = map inlet_of (same i);
      dests = dests i;
      tops = (tops.tops named ∙ (λ j. map (top_in names ends (called j) (filters j)) (logs_of statements))) i;
    }) in
    let rules-are : table.rules_patterns named forest.rewrites.items ≡ joined (map (written_patterns named) (rewrites_in names statements)) =
    rules-written named forest.rewrites.items ∙ ap (λ (ws : List WrittenRule). joined (map (written_patterns named) ws)) written in
    let paths-are : table.siblings_patterns named forest.paths.items ≡ logs_patterns names (calls_of statements) named (logs_of statements) =
    tops.patterns named ∙ ap (λ (cs : List (List Call)). logs_patterns names cs named (logs_of statements)) called in
    record {
      woods = woods;
      patterns = (λ i. table.filters_patterns named named ++ rules-are i ++ paths-are i) ∙ ap (patterns_with names statements) filters;
      lines = tops.lines;
      filters = filters;
      rewrites = written;
      within = subst (λ (w : Woods). TopsStayWithin w.dests w.tops) (sym woods) (tops-stay names ends (calls_of statements) (filters_in names statements) (logs_of statements));
    }
