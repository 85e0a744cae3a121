-- What finds the members near two addresses.
use Rattle.std.specs.Prelude.{[]}
use Rattle.near_search.specs.Contents.{NearContent, near_content}
use Rattle.near_search.specs.declared.near_pages.Finder.{Finder}
use Rattle.near_search.specs.declared.near_pages.Finder.TheVariants.{Whole, Near, Over}
use Rattle.query_search.specs.Pages.{ended}

-- what is to come of it
abbrev pub content_of : Finder → NearContent
content_of (Whole pages) = near_content pages.to_come pages.way
content_of (Near pages) = pages
content_of Over = near_content [] ended
