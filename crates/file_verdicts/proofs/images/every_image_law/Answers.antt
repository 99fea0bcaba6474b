use Rattle.file_verdicts.proofs.Headers.{scan_answered, header_judged}
use Rattle.file_verdicts.proofs.Rasters.{raster_judged, row_judged, are_bytes}
use Rattle.file_verdicts.proofs.images.every_image_law.Goals as goal

pub returns-clause-scan : goal.returns-clause-scan
returns-clause-scan c = scan_answered

pub returns-clause-header : goal.returns-clause-header
returns-clause-header c = header_judged

pub returns-clause-raster : goal.returns-clause-raster
returns-clause-raster c = λ bytes all header r. raster_judged bytes header (are_bytes bytes all) r

pub returns-clause-row : goal.returns-clause-row
returns-clause-row c = row_judged
