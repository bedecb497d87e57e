use Rattle.std.proofs.Common.{◌∷◌, ◌∙◌, ap, sym, List, ℕ, subst}
use Rattle.sg_spool.specs.Ring.{IsPayload, block_of}
use Rattle.sg_spool.proofs.Behind.{payload_back}
use Rattle.sg_spool.proofs.block.Block.new.Goals as goal

pub returns : goal.returns
returns c = payload_back c.in_ok-bytes.bytes.items c.args.payload.items (c.in_ok-bytes.ensures ∙ ap (λ (l : List ℕ). 1 ∷ block_of l) c.deref.ensures.value)

pub invariant_of-result : goal.invariant_of-result
invariant_of-result c =
    let is = c.in_ok-bytes.ensures ∙ ap (λ (l : List ℕ). 1 ∷ block_of l) c.deref.ensures.value in
    let back = payload_back c.in_ok-bytes.bytes.items c.args.payload.items is in (
      subst IsPayload (sym back) (record { some = c.requires.some; limit = c.requires.limit }),
      is ∙ ap (λ (l : List ℕ). 1 ∷ block_of l) (sym back),
    )
