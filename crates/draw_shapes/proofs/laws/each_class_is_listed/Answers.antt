use Rattle.std.proofs.Common.{◌≡◌, ℕ, Some, refl}
use Rattle.std.specs.Prelude.{slice_get}
use Rattle.draw_shapes.specs.declared.class.Class.{Class}
use Rattle.draw_shapes.specs.declared.class.Class.TheVariants as class
use Rattle.draw_shapes.specs.declared.class.TheConstants.{CLASSES}
use Rattle.draw_shapes.proofs.laws.each_class_is_listed.Goals as goal

listed : (look : Class) → (place : ℕ) × (slice_get CLASSES place ≡ Some look)
listed class.Begin = (0, refl)
listed class.Middle = (1, refl)
listed class.End = (2, refl)
listed class.Heading = (3, refl)
listed class.Terminal = (4, refl)
listed class.Quiet = (5, refl)
listed class.QuietMiddle = (6, refl)
listed class.QuietEnd = (7, refl)
listed class.Due = (8, refl)
listed class.DueEnd = (9, refl)
listed class.Held = (10, refl)
listed class.Broken = (11, refl)
listed class.Unknown = (12, refl)
listed class.Paper = (13, refl)
listed class.Grid = (14, refl)
listed class.Base = (15, refl)
listed class.Inception = (16, refl)
listed class.Deadline = (17, refl)
listed class.Margin = (18, refl)
listed class.Step = (19, refl)
listed class.Seen = (20, refl)
listed class.LogicOn = (21, refl)
listed class.LogicOpen = (22, refl)
listed class.KeyOn = (23, refl)
listed class.KeyOpen = (24, refl)
listed class.TripOn = (25, refl)
listed class.TripOpen = (26, refl)
listed class.LogicPale = (27, refl)
listed class.LogicHatch = (28, refl)
listed class.KeyPale = (29, refl)
listed class.KeyHatch = (30, refl)
listed class.TripPale = (31, refl)
listed class.TripHatch = (32, refl)

pub returns : goal.returns
returns c = listed
