use Rattle.std.proofs.Common.{◌≡◌, ◌++◌, ℕ, List}
use Rattle.sg_hint.proofs.Forms.{has-form}
use Rattle.sg_hint.proofs.written.write_hint.Goals as goal

joined : (new text slice rest place behind : List ℕ) → new ≡ text ++ slice → slice ≡ rest → text ≡ place → rest ≡ behind
    → new ≡ place ++ behind
joined new text slice rest place behind a b c d = cc

pub returns-clause-form : goal.returns-clause-form
returns-clause-form c = has-form c.args.fault.now c.args.names.now c.args.line.now c.extend_from_slice.new.self.items c.args.spotted.now
    c.in_ok-text.ensures.small c.in_ok-rest.ensures.small c.requires
    (joined _ _ _ _ _ _ c.in_ok-extend_from_slice.ensures.items c.deref.ensures.value c.in_ok-text.ensures.is c.in_ok-rest.ensures.is)
