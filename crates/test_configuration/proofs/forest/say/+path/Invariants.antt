use Rattle.test_configuration.proofs.forest.say.+path.Given as goal

abbrev pub decreases-branches : goal.decreases-branches
decreases-branches l = l.depth

abbrev pub decreases-element : goal.decreases-element
decreases-element l = l.depth

abbrev pub decreases-elements : goal.decreases-elements
decreases-elements l = l.depth

abbrev pub decreases-paths : goal.decreases-paths
decreases-paths l = l.depth
