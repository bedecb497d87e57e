-- What a function of the walk leaves.
use Rattle.std.specs.Prelude.{◌≡◌, List, ◌++◌}
use Rattle.sg_msg.specs.declared.offer.Offer.{Offer}
use Rattle.sg_tree.specs.Walk.{WalkResult}
use Rattle.test_paths.specs.declared.gone.RoutedMessages.{RoutedMessages}

-- the deliveries are added, and the rest is handed out
pub record GivesWalked (old new : List Offer) (gone : RoutedMessages)
    (walked : WalkResult) : Type 0 where
  pub offers : new ≡ old ++ walked.deliveries
  pub out : gone.out.items ≡ walked.out
  pub processed : gone.processed ≡ walked.processed
