use Rattle.std.proofs.Common.{◌≡◌, ◌<◌, ◌≤◌, ◌+◌, ◌-◌, false, true, List, length, get_or, slice_index, None, Some, ap, subst, sym, ◌∙◌, arith}
use Rattle.std.proofs.lemmas.List.{get_or_read}
use Rattle.std.specs.Arc.{arc_value}
use Rattle.sg_list.specs.Lists.{passes_at}
use Rattle.sg_lex.specs.declared.token.Token.{Token}
use Rattle.sg_block.specs.declared.source.FileTokens.{FileTokens}
use Rattle.sg_block.specs.Tokens.{is_symbol}
use Rattle.sg_block.specs.Brackets.{EndsAt, IsClosing}
use Rattle.sg_block.proofs.Lists.{length-part}
use Rattle.sg_block.proofs.Within.{end-of-byte, passes-here, is-closing-some, is-closing-none}
use Rattle.sg_block.proofs.part.TokenSpan.closing.Goals as goal

pub returns-then-end-self : goal.returns-then-end-self
returns-then-end-self c =
    let source = arc_value c.self.inside.source in
    let all = source.tokens.items in
    let from = c.self.inside.from in
    let to = c.self.inside.to in
    let first = from + c.args.place + 1 in
    let end = c.index-end.result.now in
    let size = length-part from to all c.self.invariant.0 c.self.invariant.1 in
    let before : from + c.args.place < to = omega (arith, c.requires.place, size, ap length c.self.view_is) in
    let within : to ≤ length all = c.self.invariant.1 in
    let counted : length source.ends.items ≡ length all + 1 = c.self.invariant.2.0 in
    let read : end ≡ slice_index source.ends.items first = get_or_read source.ends.items first end (omega arith) (c.index-end.ensures ∙ ap (λ (s : FileTokens). get_or s.ends.items first end) c.deref.ensures) 0 in
    let at : EndsAt all end first = subst (λ n. EndsAt all n first) (sym read) (c.self.invariant.2.1 first (omega arith) (omega arith)) in
    subst (λ (ys : List Token). IsClosing c.args.closing ys c.args.place None) c.self.view_is
    (is-closing-none c.args.closing from to c.args.place end all before within at.2 at.3 (λ _. omega (arith, c.if-end-self.true)) (end-of-byte c.args.closing all first end c.requires.byte at))

pub returns-then-not-is_symbol : goal.returns-then-not-is_symbol
returns-then-not-is_symbol c =
    let source = arc_value c.self.inside.source in
    let all = source.tokens.items in
    let from = c.self.inside.from in
    let to = c.self.inside.to in
    let first = from + c.args.place + 1 in
    let end = c.index-end.result.now in
    let size = length-part from to all c.self.invariant.0 c.self.invariant.1 in
    let before : from + c.args.place < to = omega (arith, c.requires.place, size, ap length c.self.view_is) in
    let within : to ≤ length all = c.self.invariant.1 in
    let counted : length source.ends.items ≡ length all + 1 = c.self.invariant.2.0 in
    let read : end ≡ slice_index source.ends.items first = get_or_read source.ends.items first end (omega arith) (c.index-end.ensures ∙ ap (λ (s : FileTokens). get_or s.ends.items first end) c.deref.ensures) 0 in
    let at : EndsAt all end first = subst (λ n. EndsAt all n first) (sym read) (c.self.invariant.2.1 first (omega arith) (omega arith)) in
    let inside_it : end < length all = omega (arith, c.if-end-self.false) in
    let fails : passes_at all end (is_symbol c.args.closing) ≡ false = passes-here all end c.index.result.now (is_symbol c.args.closing) false inside_it (c.index.ensures ∙ ap (λ (s : FileTokens). get_or s.tokens.items end c.index.result.now) c.deref-2.ensures) (sym c.is_symbol.ensures ∙ c.if-not-is_symbol.true) in
    subst (λ (ys : List Token). IsClosing c.args.closing ys c.args.place None) c.self.view_is
    (is-closing-none c.args.closing from to c.args.place end all before within at.2 at.3 (λ p. let wrong : false ≡ true = sym fails ∙ p in cc) (end-of-byte c.args.closing all first end c.requires.byte at))

pub returns : goal.returns
returns c =
    let source = arc_value c.self.inside.source in
    let all = source.tokens.items in
    let from = c.self.inside.from in
    let to = c.self.inside.to in
    let first = from + c.args.place + 1 in
    let end = c.index-end.result.now in
    let size = length-part from to all c.self.invariant.0 c.self.invariant.1 in
    let before : from + c.args.place < to = omega (arith, c.requires.place, size, ap length c.self.view_is) in
    let within : to ≤ length all = c.self.invariant.1 in
    let counted : length source.ends.items ≡ length all + 1 = c.self.invariant.2.0 in
    let read : end ≡ slice_index source.ends.items first = get_or_read source.ends.items first end (omega arith) (c.index-end.ensures ∙ ap (λ (s : FileTokens). get_or s.ends.items first end) c.deref.ensures) 0 in
    let at : EndsAt all end first = subst (λ n. EndsAt all n first) (sym read) (c.self.invariant.2.1 first (omega arith) (omega arith)) in
    let inside_it : end < length all = omega (arith, c.if-end-self.false) in
    let passes : passes_at all end (is_symbol c.args.closing) ≡ true = passes-here all end c.index.result.now (is_symbol c.args.closing) true inside_it (c.index.ensures ∙ ap (λ (s : FileTokens). get_or s.tokens.items end c.index.result.now) c.deref-2.ensures) (sym c.is_symbol.ensures ∙ c.if-not-is_symbol.false) in
    subst (λ (ys : List Token). IsClosing c.args.closing ys c.args.place (Some (end - from))) c.self.view_is
    (is-closing-some c.args.closing from to c.args.place end all before within (omega (arith, c.if-end-self.false)) passes at.2 (end-of-byte c.args.closing all first end c.requires.byte at))
