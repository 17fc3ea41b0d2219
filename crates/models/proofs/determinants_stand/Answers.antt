use Rattle.models.proofs.Signs.{lawful_by_sign}
use Rattle.models.proofs.Plane.{points_keep_the_laws}
use Rattle.models.proofs.FlatPoints.{flat_points_keep_the_laws, flat_points_agree}
use Rattle.models.proofs.StarLaws.{stars_keep_the_laws}
use Rattle.models.proofs.Circles.{outside_by_determinant}
use Rattle.models.proofs.determinants_stand.Goals as goal

pub returns : goal.returns
returns c =
    record {
      signs = lawful_by_sign;
      points = points_keep_the_laws;
      flat_points = flat_points_keep_the_laws;
      agree = flat_points_agree;
      stars = stars_keep_the_laws;
      circles = outside_by_determinant;
    }
