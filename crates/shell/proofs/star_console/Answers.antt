use Rattle.std.proofs.Common.{sym, subst, ⊎_elim}
use Rattle.sheet.specs.declared.Kind.TheVariants.{FlatPoints, Network, Table}
use Rattle.hull.proofs.Recording.{made_so}
use Rattle.opening.specs.Opening.{Opens}
use Rattle.shell.specs.Stars.{StarConsole, no_star_line}
use Rattle.shell.specs.Stars as star
use Rattle.shell.proofs.star_console.Goals as goal

pub returns-in-Points : goal.returns-in-Points
returns-in-Points c =
    let o = subst (Opens c.args.text.now) c.in-Points.is c.in-Ok.ensures.opened in
    record { console = made_so c.over_star.result (λ out h. star.StarConsole.opened o.holds o.accepted h) c.over_star.ensures.over }

pub returns-in-FlatPoints : goal.returns-in-FlatPoints
returns-in-FlatPoints c =
    let Says = StarConsole c.args.text.now c.args.centre c.args.layers.now c.args.script.now in
    let line : Says no_star_line = ⊎_elim
    (λ f. let o = subst (Opens c.args.text.now) f.1 c.in-Ok.ensures.opened in star.StarConsole.starless {k = FlatPoints} tt o.holds o.accepted)
    (λ r. ⊎_elim
    (λ n. let o = subst (Opens c.args.text.now) n.1 c.in-Ok.ensures.opened in star.StarConsole.starless {k = Network} tt o.holds o.accepted)
    (λ t. let o = subst (Opens c.args.text.now) t.1 c.in-Ok.ensures.opened in star.StarConsole.starless {k = Table} tt o.holds o.accepted)
    r)
    c.in-FlatPoints.is
    in
    record { console = made_so c.no_star.result (λ out e. subst Says (sym e) line) c.no_star.ensures.line }

pub returns-in-Err : goal.returns-in-Err
returns-in-Err c =
    record {
      console = made_so c.refusal.result
          (λ out e. subst (StarConsole c.args.text.now c.args.centre c.args.layers.now c.args.script.now) (sym e) (star.StarConsole.refused c.in-Err.fault c.in-Err.ensures.opened))
          c.refusal.ensures.line;
    }
