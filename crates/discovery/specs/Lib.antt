-- Groups: the documents `APIGroupList` and `APIGroup` (Kubernetes' group discovery, in this project's profile).
-- Lasts: the last element of a list that grows.
-- Order: served versions in order of their groups.
-- Resources: the document `APIResourceList` (Kubernetes' resource discovery, in this project's profile).
-- Metrics: the page of the gates' values (in Prometheus' text exposition format).
-- Releases: the document of a server's releases (its `/version` after KEP-4330, in a form of this product).
-- Laws: which groups, versions and gates the documents list.
pub mod Groups
pub mod Lasts
pub mod Order
pub mod Resources
pub mod Metrics
pub mod Releases
pub mod Laws
