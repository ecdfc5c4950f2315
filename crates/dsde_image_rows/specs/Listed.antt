-- The row of a part.
use Rattle.dsde_values.specs.declared.path.Path.{Path}
use Rattle.dsde_language.specs.declared.ids.ModelId.{ModelId}
use Rattle.dsde_image.specs.Image.{location_of}
use Rattle.dsde_image.specs.declared.image.Body.{Body}
use Rattle.dsde_image.specs.declared.image.Row.{Row}
use Rattle.dsde_image.specs.declared.image.Version.{Version}
use Rattle.dsde_image_rows.specs.Rows.{Script}

-- where it stands, its model and what it is
abbrev pub row_at : Script → Version → Path → ModelId → Body → Row
row_at script version path model body = record { location = location_of version path; model = script.model model; body = body }
