use Rattle.sg_hub.proofs.laws.lies_standing.Goals as goal

pub returns : goal.returns
returns g c made turns s held start events kept home stands =
    let lies = c.lies_as_given.ensures made turns s held kept home in
    (lies.0, lies.1, c.histories_stand.ensures made held.office lies.0 start events lies.2 stands)
